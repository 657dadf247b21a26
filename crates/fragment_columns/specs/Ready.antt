-- When a layout can be written to the lent columns.
use Rattle.std.specs.Prelude.{ℕ, ◌≤◌, ◌≡◌, length}
use Rattle.layouts.specs.Layout.{Layout}
use Rattle.layouts.specs.Columns.{Columns}

-- n and m are a layout's counts of fragments and pieces, and the columns have room for them
pub record Ready (n m : ℕ) (l : Layout) (c : Columns) : Type 0 where
  pub fragments : n ≡ length l.bases
  pub pieces : m ≡ length l.pieces
  pub present_fits : n ≤ length c.present
  pub bstart_fits : n ≤ length c.bstart
  pub bstop_fits : n ≤ length c.bstop
  pub from_fits : n ≤ length c.from
  pub to_fits : n ≤ length c.to
  pub pstart_fits : m ≤ length c.pstart
  pub pstop_fits : m ≤ length c.pstop
