use Rattle.lister.proofs.Determining.{determined}
use Rattle.lister.proofs.Listings.{law}
use Rattle.lister.proofs.listing.listing_stands.Goals as goal

pub returns : goal.returns
returns g c = record {
  answers = λ t room p s. determined (g.C.Cursor.readings t);
  listing = λ t room p s. law (g.C.Cursor.readings t) (g.C.Cursor.lawful _ t room p s);
}
