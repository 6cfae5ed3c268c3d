-- What a table that serves what is live says of a live row.
-- For: Table::height_below, Table::find_below, Table::live_height.
use Rattle.std.proofs.Common.{◌≡◌, ◌∙◌, ℕ, suc, ◌<◌, ap, sym, subst, List, ◌∷◌, length, Some, slice_get}
use Rattle.ps_scope.specs.Environments.{Entry}
use Rattle.ps_scope.specs.InsideTables.{entry, trail_at, trails, oldest, newest, Serves}
use Rattle.ps_scope.specs.declared.table.Row.{Row}
use Rattle.ps_scope.specs.declared.table.Slot.{Slot}
use Rattle.ps_scope.proofs.Places.{get_within, some_same}
use Rattle.ps_scope.proofs.Pushing.{bucket_at}

-- the same table by other names
pub served : (rows rows' : List Row) (live live' : List Slot) (heads : List ℕ) (n : ℕ) (es es' : List Entry) → rows' ≡ rows → live' ≡ live → es ≡ es' → Serves rows live heads n es → Serves rows' live' heads n es'
served rows rows' live live' heads n es es' a l e h = subst (λ xs. Serves rows' live' heads n xs) e (subst (λ ls. Serves rows' ls heads n es) (sym l) (subst (λ rs. Serves rs live heads n es) (sym a) h))

module _ (rows : List Row) (live : List Slot) (heads : List ℕ) (n : ℕ) (es : List Entry) (right : Serves rows live heads n es) (i : ℕ) (s : Slot) (at : slice_get live i ≡ Some s) where
  pub has_row : s.row < length rows
  has_row = get_within rows s.row (right.stand i s at).row (right.stand i s at).is

  pub trail_of : trail_at (trails rows) (suc s.row) ≡ oldest (suc i) es
  trail_of = (right.stand i s at).trail

  pub top_of : (r : Row) → slice_get rows s.row ≡ Some r → oldest (suc i) es ≡ entry r ∷ oldest i es
  top_of r e =
      let st = right.stand i s at in
      st.top ∙ ap (λ r. entry r ∷ oldest i es) (some_same st.row r (sym st.is ∙ e))

  pub next_of : (r : Row) → slice_get rows s.row ≡ Some r → s.next ≡ newest (oldest i es) (bucket_at r)
  next_of r e =
      let st = right.stand i s at in
      st.next ∙ ap (λ r. newest (oldest i es) (bucket_at r)) (some_same st.row r (sym st.is ∙ e))

  pub row_of : (r : Row) × (slice_get rows s.row ≡ Some r)
  row_of = let st = right.stand i s at in (st.row, st.is)
