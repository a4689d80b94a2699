-- Any list of lists in rising order.
use Rattle.std.proofs.Common.{◌≡◌, ℕ, ◌⊎◌, List, [], ◌∷◌, sym, ◌∙◌, subst, inl, inr}
use mathlib.Core.List.Memᴰ
use Rattle.lists.specs.Members.{◌∈◌}
use Rattle.readings.specs.Order.{Before}
use Rattle.readings.proofs.Ordering.{before_transitive, before_total}
use Rattle.lister.specs.Listing.{Rising}

-- zs has the members of xs, rising
pub record Sorted (xs zs : List (List ℕ)) : Type 0 where
  pub rising : Rising zs
  pub only : (y : List ℕ) → y ∈ zs → y ∈ xs
  pub all : (y : List ℕ) → y ∈ xs → y ∈ zs

insert : (x : List ℕ) (ys : List (List ℕ)) → Rising ys → (zs : List (List ℕ)) × Sorted (x ∷ ys) zs
insert x [] h = (x ∷ [], record { rising = ((λ y m. absurd (Memᴰ.not-nil m)), tt); only = λ y m. m; all = λ y m. m })
insert x (a ∷ ys) h = go (before_total x a) (insert x ys h.1)
  where
    front : Before x a → (y : List ℕ) → (y ≡ a) ⊎ (y ∈ ys) → Before x y
    front b y (inl e) = subst (λ (t : List ℕ). Before x t) (sym e) b
    front b y (inr m) = before_transitive x a y b (h.0 y m)

    drops : x ≡ a → (y : List ℕ) → (y ≡ x) ⊎ (y ∈ (a ∷ ys)) → y ∈ (a ∷ ys)
    drops e y (inl q) = Memᴰ.head (q ∙ e)
    drops e y (inr m) = m

    behind : Before a x → (y : List ℕ) → (y ≡ x) ⊎ (y ∈ ys) → Before a y
    behind b y (inl e) = subst (λ (t : List ℕ). Before a t) (sym e) b
    behind b y (inr m) = h.0 y m

    down : (y : List ℕ) → (y ≡ x) ⊎ (y ∈ ys) → y ∈ (x ∷ a ∷ ys)
    down y (inl e) = Memᴰ.head e
    down y (inr m) = Memᴰ.tail (Memᴰ.tail m)

    only' : (zs : List (List ℕ)) → Sorted (x ∷ ys) zs → (y : List ℕ) → (y ≡ a) ⊎ (y ∈ zs) → y ∈ (x ∷ a ∷ ys)
    only' zs s y (inl e) = Memᴰ.tail (Memᴰ.head e)
    only' zs s y (inr m) = down y (Memᴰ.cases_cons (s.only y m))

    inner : (zs : List (List ℕ)) → Sorted (x ∷ ys) zs → (y : List ℕ) → (y ≡ a) ⊎ (y ∈ ys) → y ∈ (a ∷ zs)
    inner zs s y (inl e) = Memᴰ.head e
    inner zs s y (inr m) = Memᴰ.tail (s.all y (Memᴰ.tail m))

    all' : (zs : List (List ℕ)) → Sorted (x ∷ ys) zs → (y : List ℕ) → (y ≡ x) ⊎ (y ∈ (a ∷ ys)) → y ∈ (a ∷ zs)
    all' zs s y (inl e) = Memᴰ.tail (s.all y (Memᴰ.head e))
    all' zs s y (inr m) = inner zs s y (Memᴰ.cases_cons m)

    go : Before x a ⊎ ((x ≡ a) ⊎ Before a x) → (zs : List (List ℕ)) × Sorted (x ∷ ys) zs → (zs : List (List ℕ)) × Sorted (x ∷ a ∷ ys) zs
    go (inl b) s = (x ∷ a ∷ ys, record { rising = ((λ y m. front b y (Memᴰ.cases_cons m)), h); only = λ y m. m; all = λ y m. m })
    go (inr (inl e)) s = (a ∷ ys, record { rising = h; only = λ y m. Memᴰ.tail m; all = λ y m. drops e y (Memᴰ.cases_cons m) })
    go (inr (inr b)) s = (
      a ∷ s.0,
      record {
        rising = ((λ y m. behind b y (Memᴰ.cases_cons (s.1.only y m))), s.1.rising);
        only = λ y m. only' s.0 s.1 y (Memᴰ.cases_cons m);
        all = λ y m. all' s.0 s.1 y (Memᴰ.cases_cons m);
      },
    )

pub sorted : (xs : List (List ℕ)) → (zs : List (List ℕ)) × Sorted xs zs
sorted [] = ([], record { rising = tt; only = λ y m. m; all = λ y m. m })
sorted (x ∷ xs) = go (sorted xs)
  where
    only' : (zs : List (List ℕ)) → Sorted xs zs → (y : List ℕ) → (y ≡ x) ⊎ (y ∈ zs) → y ∈ (x ∷ xs)
    only' zs s y (inl e) = Memᴰ.head e
    only' zs s y (inr m) = Memᴰ.tail (s.only y m)

    all' : (zs : List (List ℕ)) → Sorted xs zs → (y : List ℕ) → (y ≡ x) ⊎ (y ∈ xs) → y ∈ (x ∷ zs)
    all' zs s y (inl e) = Memᴰ.head e
    all' zs s y (inr m) = Memᴰ.tail (s.all y m)

    go : (zs : List (List ℕ)) × Sorted xs zs → (zs : List (List ℕ)) × Sorted (x ∷ xs) zs
    go s =
        let t = insert x s.0 s.1.rising in (
          t.0,
          record {
            rising = t.1.rising;
            only = λ y m. only' s.0 s.1 y (Memᴰ.cases_cons (t.1.only y m));
            all = λ y m. t.1.all y (all' s.0 s.1 y (Memᴰ.cases_cons m));
          },
        )
