-- Equality of items is decided, and whether an item of a chart is a root.
use Rattle.std.proofs.Common.{◌≡◌, ℕ, length, Some, None, Option, refl, arith}
use native.Mathlib.Decide.{ℕ_discrete}
use Rattle.indent.specs.declared.summary.Summary.{Summary}
use Rattle.indent.specs.declared.summary.Summary.TheVariants.{Free, AtMost, Exact}
use Rattle.lists.specs.Entries.{nth}
use Rattle.grammar.specs.Grammar.{Grammar, Rule}
use Rattle.charts.specs.Chart.{Item, Finished}

pub summary_decided : Discrete Summary
summary_decided Free Free = yes refl
summary_decided Free (AtMost n) = no (λ e. let z : ◌≡◌ {A = ℕ} 0 1 = cc in omega arith)
summary_decided Free (Exact d) = no (λ e. let z : ◌≡◌ {A = ℕ} 0 1 = cc in omega arith)
summary_decided (AtMost m) Free = no (λ e. let z : ◌≡◌ {A = ℕ} 0 1 = cc in omega arith)
summary_decided (AtMost m) (AtMost n) = under (ℕ_discrete m n)
  where
    under : Dec (m ≡ n) → Dec (AtMost m ≡ AtMost n)
    under (yes e) = yes (cc)
    under (no f) = no (λ e. f (cc))
summary_decided (AtMost m) (Exact d) = no (λ e. let z : ◌≡◌ {A = ℕ} 0 1 = cc in omega arith)
summary_decided (Exact c) Free = no (λ e. let z : ◌≡◌ {A = ℕ} 0 1 = cc in omega arith)
summary_decided (Exact c) (AtMost n) = no (λ e. let z : ◌≡◌ {A = ℕ} 0 1 = cc in omega arith)
summary_decided (Exact c) (Exact d) = under (ℕ_discrete c d)
  where
    under : Dec (c ≡ d) → Dec (Exact c ≡ Exact d)
    under (yes e) = yes (cc)
    under (no f) = no (λ e. f (cc))

pub item_decided : Discrete Item
item_decided x y = go (ℕ_discrete x.rule y.rule) (ℕ_discrete x.dot y.dot) (ℕ_discrete x.from y.from) (ℕ_discrete x.to y.to) (summary_decided x.summary y.summary)
  where
    go : Dec (x.rule ≡ y.rule) → Dec (x.dot ≡ y.dot) → Dec (x.from ≡ y.from) → Dec (x.to ≡ y.to) → Dec (x.summary ≡ y.summary) → Dec (x ≡ y)
    go (yes a) (yes b) (yes c) (yes d) (yes e) = yes (λ i. record { rule = a i; dot = b i; from = c i; to = d i; summary = e i })
    go (yes a) (yes b) (yes c) (yes d) (no f) = no (λ e. f (cc))
    go (yes a) (yes b) (yes c) (no f) t = no (λ e. f (cc))
    go (yes a) (yes b) (no f) s t = no (λ e. f (cc))
    go (yes a) (no f) r s t = no (λ e. f (cc))
    go (no f) q r s t = no (λ e. f (cc))

finished_at : (g : Grammar) (x : Item) (a : ℕ) (m : Option Rule) → nth g.rules x.rule ≡ m → Dec (Finished g x a)
finished_at g x a None h = no (λ f. let k = f.is in let z : ◌≡◌ {A = ℕ} 0 1 = cc in omega arith)
finished_at g x a (Some p) h = go (ℕ_discrete x.dot (length p.places)) (ℕ_discrete p.left a)
  where
    go : Dec (x.dot ≡ length p.places) → Dec (p.left ≡ a) → Dec (Finished g x a)
    go (yes d) (yes l) = yes (record { of = p; is = h; all = d; left = l })
    go (yes d) (no l) = no (λ f. let e : f.of ≡ p = cc (f.is, h) in l (cc (f.left, e)))
    go (no d) l = no (λ f. let e : f.of ≡ p = cc (f.is, h) in d (cc (f.all, e)))

pub finished_decided : (g : Grammar) (x : Item) (a : ℕ) → Dec (Finished g x a)
finished_decided g x a = finished_at g x a (nth g.rules x.rule) refl
