-- A worked case: a dialect and words, with the readings, sums, items and links that they are said to have.
use Rattle.std.specs.Prelude.{◌≡◌, ℕ, suc, ◌<◌, List, [], ◌∷◌, length, Option}
use Rattle.tokens.specs.declared.token.Token.{Token}
use Rattle.lists.specs.Members.{◌∈◌, Distinct}
use Rattle.lists.specs.Begins.{Begins}
use Rattle.lists.specs.Exactly.{Exactly}
use Rattle.grammar.specs.Grammar.{Grammar}
use Rattle.readings.specs.Reading.{Reading}
use Rattle.readings.specs.Order.{Before}
use Rattle.charts.specs.Chart.{InChart}
use Rattle.charts.specs.Links.{InForest}
use Rattle.semiring.specs.Kinds.{count_ops, least_cost_ops}
use Rattle.sums.specs.Sums.{Sums, cost_of}

-- the letters of the cases
pub data Letter : Type 0 where
  A : Letter
  B : Letter
  C : Letter
  D : Letter
  E : Letter
  F : Letter
  G : Letter
  H : Letter

-- how many readings begin with a prefix, and the least cost of one
pub record Beginning : Type 0 where
  pub prefix : List ℕ
  pub count : ℕ
  pub least : Option ℕ

-- the words are given by their columns, the readings in rising order; items and links are how many there are
pub record Case : Type 0 where
  pub name : Letter
  pub dialect : Grammar
  pub columns : List ℕ
  pub readings : List (List ℕ)
  pub count : ℕ
  pub least : Option ℕ
  pub beginnings : List Beginning
  pub items : ℕ
  pub links : ℕ

-- where words stand in a script: the place and the length of each, by its number. They play no part
pub record Spots : Type 0 where
  pub place : ℕ → ℕ
  pub length : ℕ → ℕ

-- words (kind 1) at columns, numbered from n on
abbrev pub words : Spots → ℕ → List ℕ → List Token
words s n [] = []
words s n (c ∷ cs) = record { kind = 1; column = c; place = s.place n; length = s.length n } ∷ words s (suc n) cs

abbrev pub tokens : Spots → Case → List Token
tokens s c = words s 0 c.columns

-- each list comes before all that stand behind it
abbrev pub Rising : List (List ℕ) → Type 0
Rising [] = Unit {0}
Rising (xs ∷ R) = ((ys : List ℕ) → ys ∈ R → Before xs ys) × Rising R

-- exactly n elements have P
pub record Many {A : Type 0} (n : ℕ) (P : A → Type 0) : Type 0 where
  pub all : List A
  pub exactly : Exactly P all
  pub many : length all ≡ n

-- more than n elements have P
pub record More {A : Type 0} (n : ℕ) (P : A → Type 0) : Type 0 where
  pub some : List A
  pub many : n < length some
  pub distinct : Distinct some
  pub only : (x : A) → x ∈ some → P x

-- the count and the least cost of the readings that begin with the prefix
pub record Begun (s : Spots) (c : Case) (b : Beginning) : Type 0 where
  pub count : Sums count_ops (cost_of c.dialect) (λ xs. Reading c.dialect (tokens s c) xs × Begins b.prefix xs) b.count
  pub least : Sums least_cost_ops (cost_of c.dialect) (λ xs. Reading c.dialect (tokens s c) xs × Begins b.prefix xs) b.least

-- the case is as it is said to be, and no table with fewer rows has room for its items or its links
pub record Holds (s : Spots) (c : Case) : Type 0 where
  pub readings : Exactly (Reading c.dialect (tokens s c)) c.readings
  pub rising : Rising c.readings
  pub count : Sums count_ops (cost_of c.dialect) (Reading c.dialect (tokens s c)) c.count
  pub least : Sums least_cost_ops (cost_of c.dialect) (Reading c.dialect (tokens s c)) c.least
  pub beginnings : (b : Beginning) → b ∈ c.beginnings → Begun s c b
  pub items : Many c.items (InChart c.dialect (tokens s c))
  pub links : Many c.links (InForest c.dialect (tokens s c))
  pub more_items : (n : ℕ) → n < c.items → More n (InChart c.dialect (tokens s c))
  pub more_links : (n : ℕ) → n < c.links → More n (InForest c.dialect (tokens s c))
