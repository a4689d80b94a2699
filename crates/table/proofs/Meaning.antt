-- Rows that mean one item are one row.
use Rattle.std.proofs.Common.{◌≡◌, ap}
use Rattle.indent.proofs.Coding.{same_code}
use Rattle.charts.specs.Chart.{Item}
use Rattle.table.specs.declared.row.ItemRow.{ItemRow}
use Rattle.table.specs.Rows.{item_of}

pub item_same : (x y : ItemRow) → item_of x ≡ item_of y → x ≡ y
item_same x y e =
    let s : x.summary ≡ y.summary = same_code x.summary y.summary (ap (λ (z : Item). z.summary) e) in
    λ i. record { rule = (e i).rule; dot = (e i).dot; start = (e i).from; end = (e i).to; summary = s i }
