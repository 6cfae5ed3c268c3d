use Rattle.std.proofs.Common.{◌≡◌, ◌∙◌, List, ℕ, ap, sym, Some, slice_get}
use Rattle.std.specs.Option.{option_copied}
use Rattle.ps_scope.specs.Environments.{Frames, word, found, kept_at}
use Rattle.ps_scope.specs.InsideTables.{trail_at}
use Rattle.ps_scope.proofs.Pairs.{found_pairs, kept_there}
use Rattle.ps_scope.proofs.scopes.Scopes.find_kept.Goals as goal

pub returns : goal.returns
returns c =
    let w : List ℕ = word c.args.name c.args.stamps.now in
    let t = c.self.inside.table in
    let e : slice_get c.self.inside.kept c.args.number ≡ Some c.in_ok-mark.mark.now = ap (λ xs. slice_get xs c.args.number) (sym c.as_slice.ensures) ∙ sym c.at.ensures ∙ ap option_copied c.in_ok-mark.was in
    c.find_at.ensures ∙ sym (found_pairs (trail_at t.trails c.in_ok-mark.mark.now) c.args.name.0 c.args.stamps.now)
    ∙ ap (λ env. found env w) (sym (kept_there t.trails c.self.inside.kept c.args.number c.in_ok-mark.mark.now e))
    ∙ ap (λ (f : Frames). found (kept_at f.kept c.args.number) w) c.self.view_is
