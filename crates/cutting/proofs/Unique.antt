-- A script has at most one list of tokens and one ending.
use Rattle.std.proofs.Common.{◌≡◌, ℕ, List, refl}
use Rattle.cutting.specs.Cuts.{Span, Stop, Cuts, ends, breaks, skip, cut}
use Rattle.cutting.specs.Whole.{whole}
use Rattle.cutting.specs.Laws.{Alike, ExactlyOne}

pub only : {xs : List ℕ} {at bt : ℕ} {ss us : List Span} {e f : Stop} → Cuts xs at ss e → Cuts xs bt us f → at ≡ bt → Alike ss us e f
only (ends p) (ends q) h = (refl, refl)
only (ends p) (breaks q) h = cc
only (ends p) (skip q d) h = cc
only (ends p) (cut q d) h = cc
only (breaks p) (ends q) h = cc
only (breaks p) (breaks q) h = (refl, cc)
only (breaks p) (skip q d) h = cc
only (breaks p) (cut q d) h = cc
only (skip p c) (ends q) h = cc
only (skip p c) (breaks q) h = cc
only (skip p c) (skip q d) h = only c d (cc)
only (skip p c) (cut q d) h = cc
only (cut p c) (ends q) h = cc
only (cut p c) (breaks q) h = cc
only (cut p c) (skip q d) h = cc
only (cut p c) (cut q d) h = let r = only c d (cc) in (cc, r.1)

pub exactly_one : ExactlyOne
exactly_one xs at = (whole xs at, λ ss us e f c d. only c d refl)
