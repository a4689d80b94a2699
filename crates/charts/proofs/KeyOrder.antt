-- Where ranks and dots are bounded, a key is one number.
use Rattle.std.proofs.Common.{◌≡◌, ℕ, ◌+◌, ◌*◌, ◌<◌, ◌⊎◌, ap, inl, inr, arith}
use lib.Arith.{digits_lt}
use Rattle.charts.specs.Key.{Key, Less, number}

digit : (a b m r s : ℕ) → ((a < b) × (r < m)) ⊎ ((a ≡ b) × (r < s)) → a * m + r < b * m + s
digit a b m r s (inl (h, k)) = omega (arith, digits_lt h k)
digit a b m r s (inr (e, k)) = omega (arith, ap (λ x. x * m) e)

pub number_less : (m d : ℕ) (j k : Key) → j.barred < 2 → j.rank < m → j.dot < d → Less j k → number m d j < number m d k
number_less m d j k x y z (inl h) = digit ((j.span * 2 + j.barred) * m + j.rank) ((k.span * 2 + k.barred) * m + k.rank) d j.dot k.dot (inl (digit (j.span * 2 + j.barred) (k.span * 2 + k.barred) m j.rank k.rank (inl (omega arith, y)), z))
number_less m d j k x y z (inr (e, inl h)) = digit ((j.span * 2 + j.barred) * m + j.rank) ((k.span * 2 + k.barred) * m + k.rank) d j.dot k.dot (inl (digit (j.span * 2 + j.barred) (k.span * 2 + k.barred) m j.rank k.rank (inl (omega arith, y)), z))
number_less m d j k x y z (inr (e, inr (l, inl h))) = digit ((j.span * 2 + j.barred) * m + j.rank) ((k.span * 2 + k.barred) * m + k.rank) d j.dot k.dot (inl (digit (j.span * 2 + j.barred) (k.span * 2 + k.barred) m j.rank k.rank (inr (omega arith, h)), z))
number_less m d j k x y z (inr (e, inr (l, inr (n, h)))) = digit ((j.span * 2 + j.barred) * m + j.rank) ((k.span * 2 + k.barred) * m + k.rank) d j.dot k.dot (inr (cc, h))
