-- The sum over the lists that end in a root, and over lists behind a given one.
use Rattle.std.proofs.Common.{◌≡◌, ℕ, List, [], ◌∷◌, ◌++◌, map, sym, refl, ap, ◌∙◌, subst, ap₂}
use mathlib.Core.List.Memᴰ
use mathlib.Core.List.{append_cancel_left}
use Rattle.tokens.specs.declared.token.Token.{Token}
use Rattle.lists.specs.Members.{Distinct, ◌∈◌}
use Rattle.lists.specs.Exactly.{Exactly}
use Rattle.lists.proofs.Distinct.{map_distinct, map_one}
use Rattle.grammar.specs.Grammar.{Grammar}
use Rattle.charts.specs.Chart.{Item, Root}
use Rattle.semiring.specs.Laws.{Ops, Lawful}
use Rattle.semiring.specs.Values.{total, value}
use Rattle.sums.specs.Sums.{Sums}
use Rattle.sums.proofs.Totals.{value_in, total_in}
use Rattle.sums.proofs.Unions.{SomeOf, transfer, union, value_append}
use Rattle.prefixes.specs.Onward.{Shows, Ends, Behind}

module _ {V : Type 0} (o : Ops V) (cost : ℕ → ℕ) (laws : Lawful o) where
  pub ends_rows : {g : Grammar} {ts : List Token} {A : Type 0} (e : ℕ) (F : List A) (z : A → Item) (v : A → V) (H : Item → List ℕ → Type 0) → Shows H → Exactly (Root g ts e) (map z F) → ((a : A) → a ∈ F → Sums o cost (H (z a)) (v a)) → Sums o cost (Ends g ts e H) (total o v F)
  ends_rows {g} {ts} {A} e F z v H shows l s = transfer o cost into back (union o cost laws F (λ a. H (z a)) v (map_distinct z F l.distinct) s one)
    where
      into : (us : List ℕ) → SomeOf F (λ a. H (z a)) us → Ends g ts e H us
      into us t = (z t.0, l.only (z t.0) (Memᴰ.map z t.1), t.2)

      back : (us : List ℕ) → Ends g ts e H us → SomeOf F (λ a. H (z a)) us
      back us t =
          let (a, m, q) = Memᴰ.of_map z F (l.every t.0 t.1) in
          (a, m, subst (λ (y : Item). H y us) (sym q) t.2)

      one : (a b : A) (us : List ℕ) → a ∈ F → b ∈ F → H (z a) us → H (z b) us → a ≡ b
      one a b us m n h k = map_one z F l.distinct m n (shows (z a) (z b) us us [] [] h k refl).0

  map_total : (p : List ℕ) (R : List (List ℕ)) → total o (value o cost) (map (λ (us : List ℕ). p ++ us) R) ≡ o.product (value o cost p) (total o (value o cost) R)
  map_total p [] = sym (laws.product_none (value o cost p) (value_in o cost laws p))
  map_total p (us ∷ R) = ap₂ o.sum (value_append o cost laws p us) (map_total p R) ∙ sym (laws.product_sum (value o cost p) (value o cost us) (total o (value o cost) R) (value_in o cost laws p) (value_in o cost laws us) (total_in o laws (value o cost) (value_in o cost laws) R))

  map_apart_behind : (p : List ℕ) (R : List (List ℕ)) → Distinct R → Distinct (map (λ (us : List ℕ). p ++ us) R)
  map_apart_behind p [] a = tt
  map_apart_behind p (us ∷ R) a = (λ m. let (vs, k, e) = Memᴰ.of_map (λ (us : List ℕ). p ++ us) R m in a.0 (Memᴰ.cast (append_cancel_left p us vs (sym e)) k), map_apart_behind p R a.1)

  pub behind_sum : (p : List ℕ) {Q : List ℕ → Type 0} {v : V} → Sums o cost Q v → Sums o cost (Behind p Q) (o.product (value o cost p) v)
  behind_sum p {Q} s = record {
    lists = map (λ (us : List ℕ). p ++ us) s.lists;
    exactly = record {
      distinct = map_apart_behind p s.lists s.exactly.distinct;
      only = λ xs m. (let (us, k, e) = Memᴰ.of_map (λ (us : List ℕ). p ++ us) s.lists m in (us, s.exactly.only us k, sym e));
      every = λ xs t. Memᴰ.cast t.2 (Memᴰ.map (λ (us : List ℕ). p ++ us) (s.exactly.every t.0 t.1));
    };
    is = map_total p s.lists ∙ ap (o.product (value o cost p)) s.is;
  }
