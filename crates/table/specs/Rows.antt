-- What the rows of a chart mean: items and links.
use Rattle.std.specs.Prelude.{ℕ, zero, suc, List, slice_index_or}
use Rattle.indent.specs.Codes.{decode}
use Rattle.charts.specs.Chart.{Item}
use Rattle.charts.specs.Links.{Child, leaf, sub, Link}
use Rattle.table.specs.declared.row.ItemRow.{ItemRow}
use Rattle.table.specs.declared.row.LinkRow.{LinkRow}

-- what an unused row holds
abbrev pub no_item : ItemRow
no_item = record { rule = 0; dot = 0; start = 0; end = 0; summary = 0 }

abbrev pub no_link : LinkRow
no_link = record { item = 0; earlier = 0; child = 0 }

-- the item that a row means
abbrev pub item_of : ItemRow → Item
item_of x = record { rule = x.rule; dot = x.dot; from = x.start; to = x.end; summary = decode x.summary }

-- the row with a number, and the item that it means
abbrev pub row_at : List ItemRow → ℕ → ItemRow
row_at xs k = slice_index_or xs k no_item

abbrev pub item_at : List ItemRow → ℕ → Item
item_at xs k = item_of (row_at xs k)

-- the child that a number means: 0 a token, else the item of the row one lower
abbrev pub child_of : List ItemRow → ℕ → Child
child_of xs zero = leaf
child_of xs (suc k) = sub (item_at xs k)

-- the link that a row means
abbrev pub link_of : List ItemRow → LinkRow → Link
link_of xs l = record { item = item_at xs l.item; before = item_at xs l.earlier; child = child_of xs l.child }
