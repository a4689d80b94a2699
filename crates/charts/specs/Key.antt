-- The key of an item, by which values are computed: it falls along every link where no symbol needs itself.
use Rattle.std.specs.Prelude.{◌≡◌, ℕ, zero, suc, ◌+◌, ◌-◌, ◌*◌, ◌<◌, Bool, cond, ◌⊎◌, List, [], ◌∷◌, Some, None, Decides, Option}
use Rattle.lists.specs.Entries.{nth}
use Rattle.grammar.specs.Grammar.{Grammar, Rule, Place}
use Rattle.grammar.specs.Steps.{Nullable, Steps}
use Rattle.charts.specs.Chart.{Item}

-- null tells the nullable symbols, and rank falls along every step between symbols
pub record Ranks (g : Grammar) (null : ℕ → Bool) (rank : ℕ → ℕ) : Type 0 where
  pub nullable : (a : ℕ) → Decides (null a) (Nullable g a)
  pub falls : (a b : ℕ) → Steps g a b → rank b < rank a

-- 1 if a place from the k-th on fails the test, else 0
abbrev pub blocked : (ℕ → Bool) → List Place → ℕ → ℕ
blocked f [] k = 0
blocked f (q ∷ ps) zero = cond (f q.symbol) (blocked f ps zero) 1
blocked f (q ∷ ps) (suc k) = blocked f ps k

-- the places and the left symbol of a rule that may be missing
abbrev pub places_of : Option Rule → List Place
places_of None = []
places_of (Some p) = p.places

abbrev pub left_of : Option Rule → ℕ
left_of None = 0
left_of (Some p) = p.left

-- the span, 1 if a place behind the dot is not nullable else 0, the rank of the left symbol, and the dot
pub record Key : Type 0 where
  pub span : ℕ
  pub barred : ℕ
  pub rank : ℕ
  pub dot : ℕ

-- the key of an item
abbrev pub key : Grammar → (ℕ → Bool) → (ℕ → ℕ) → Item → Key
key g f rank x = record { span = x.to - x.from; barred = blocked f (places_of (nth g.rules x.rule)) x.dot; rank = rank (left_of (nth g.rules x.rule)); dot = x.dot }

-- the order of keys: by span, then barred, then rank, then dot
abbrev pub Less : Key → Key → Type 0
Less a b = (a.span < b.span) ⊎ ((a.span ≡ b.span) × ((a.barred < b.barred) ⊎ ((a.barred ≡ b.barred) × ((a.rank < b.rank) ⊎ ((a.rank ≡ b.rank) × (a.dot < b.dot))))))

-- a key as one number, where every rank is below m and every dot below d
abbrev pub number : ℕ → ℕ → Key → ℕ
number m d k = ((k.span * 2 + k.barred) * m + k.rank) * d + k.dot
