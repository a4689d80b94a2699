-- A loop that folds a list from its first element on, stated by what is left.
use Rattle.std.proofs.Common.{◌≡◌, ℕ, ◌+◌, ◌<◌, ◌≤◌, List, length, get_or, drop, fold, sym, ◌∙◌}
use Rattle.std.proofs.lemmas.List.{at_drop_more, at_drop_all}

pub fold_more : {A B : Type 0} (f : B → A → B) (a b : B) (xs : List A) (i : ℕ) (d : A) (t : B) → i < length xs → fold f a (drop i xs) ≡ t → b ≡ f a (get_or xs i d) → fold f b (drop (i + 1) xs) ≡ t
fold_more f a b xs i d t h e k =
    let m = at_drop_more (fold f a) xs i d h in
    cc

pub fold_all : {A B : Type 0} (f : B → A → B) (a : B) (xs : List A) (i : ℕ) (t : B) → length xs ≤ i → fold f a (drop i xs) ≡ t → a ≡ t
fold_all f a xs i t h e = sym (at_drop_all (fold f a) xs i h) ∙ e
