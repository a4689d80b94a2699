-- Stacks kept as rows: more rows leave the stacks that there are, and a number is that of one stack.
use Rattle.std.proofs.Common.{◌≡◌, ℕ, suc, ◌≤◌, List, [], ◌∷◌, ◌++◌, length, refl, ◌∙◌, arith}
use Rattle.lists.proofs.Entries.{nth_below, nth_more, nth_last}
use Rattle.charts.specs.Chart.{Item}
use Rattle.prefixes.specs.Stacks.{Row, Chain, root, up}

pub chain_more : {rows : List Row} {n : ℕ} {us : List Item} → Chain rows n us → (more : List Row) → Chain (rows ++ more) n us
chain_more root more = root
chain_more {rows} (up {i} w h b c) more = up w (nth_more rows more i (nth_below rows i h) ∙ h) b (chain_more c more)

pub chain_bound : {rows : List Row} {n : ℕ} {us : List Item} → Chain rows n us → n ≤ length rows
chain_bound root = omega arith
chain_bound {rows} (up {i} w h b c) = nth_below rows i h

-- a row more makes a stack with one item more
pub chain_push : {rows : List Row} {n : ℕ} {us : List Item} (x : Item) → Chain rows n us → Chain (rows ++ (record { item = x; outer = n } ∷ [])) (suc (length rows)) (x ∷ us)
chain_push {rows} {n} x c = up (record { item = x; outer = n }) (nth_last rows (record { item = x; outer = n }) (length rows) refl) (chain_bound c) (chain_more c (record { item = x; outer = n } ∷ []))

pub chain_one : {rows : List Row} {n : ℕ} {us : List Item} → Chain rows n us → {m : ℕ} {vs : List Item} → Chain rows m vs → n ≡ m → us ≡ vs
chain_one root root e = refl
chain_one root (up w h b c) e = absurd (omega arith)
chain_one (up w h b c) root e = absurd (omega arith)
chain_one (up {i} {us} w h b c) (up {i = j} {us = vs} w' h' b' c') e =
    let k : i ≡ j = omega arith in
    let l : w ≡ w' = cc in
    let m : us ≡ vs = chain_one c c' (cc) in
    cc
