-- The survivors by flags are those of what was seen.
-- For: blocks, copied
use Rattle.std.proofs.Common.{◌≡◌, ℕ, suc, Bool, true, false, List, [], ◌∷◌, ◌++◌, refl, sym, ap, ◌∙◌}
use Rattle.std.specs.Prelude.{Option, if◌then◌else◌}
use Rattle.byte_store.specs.declared.pointer.Value.{Value}
use Rattle.byte_store.specs.Blocks.{Block}
use Rattle.ps_kernel.specs.declared.survivors.Survivors.{Survivors}
use Rattle.ps_kernel.specs.Texts.{procedure_of}
use Rattle.ps_meaning.specs.Source.{Program}
use Rattle.ps_survive.specs.declared.steps.Node.{Node}
use Rattle.ps_survive.specs.declared.steps.Node.TheVariants as nodes
use Rattle.ps_survive.specs.Steps.{has}
use Rattle.ps_survive.specs.Kept.{kept_block, procedures, global_at, globals, blocks, survivors, IsSurvivors}
use Rattle.ps_reify.specs.declared.find.Walk.{Walk}
use Rattle.ps_reify.specs.InsideWork.{flagged, IsOver, added_block, all_added}

pub added_is : (f : Node → Bool) (es : List (ℕ × Block Value)) → all_added f es ≡ blocks f es
added_is f [] = refl
added_is f (e ∷ es) = ap (λ x. added_block (f (nodes.Data e.0)) e ++ x) (added_is f es) ∙ one (f (nodes.Data e.0))
  where
    one : (b : Bool) → added_block b e ++ blocks f es ≡ (if b then record { number = e.0; block = kept_block e.1 } ∷ blocks f es else blocks f es)
    one true = refl
    one false = refl

module _ (p : Program) (f g : Node → Bool) (h : (n : Node) → f n ≡ g n) where
  globals_same : (n : ℕ) (vs : List (Option Value)) → globals p f n vs ≡ globals p g n vs
  globals_same n [] = refl
  globals_same n (v ∷ vs) =
      ap (λ b. global_at b n (procedure_of p.kernel n) v ++ globals p f (suc n) vs) (h (nodes.Global n)) ∙ ap (λ x. global_at (g (nodes.Global n)) n (procedure_of p.kernel n) v ++ x) (globals_same (suc n) vs)

  blocks_same : (es : List (ℕ × Block Value)) → all_added f es ≡ all_added g es
  blocks_same [] = refl
  blocks_same (e ∷ es) = ap (λ x. added_block x e ++ all_added f es) (h (nodes.Data e.0)) ∙ ap (λ x. added_block (g (nodes.Data e.0)) e ++ x) (blocks_same es)

  survivors_same : (order : List Node) → survivors p order f ≡ survivors p order g
  survivors_same order =
      ap (λ x. let s : Survivors = record { procedures = procedures p order; blocks = x; globals = globals p f 0 p.globals; main = p.kernel.main } in s) (sym (added_is f p.memory.fixed) ∙ blocks_same p.memory.fixed ∙ added_is g p.memory.fixed)
      ∙ ap (λ x. let s : Survivors = record { procedures = procedures p order; blocks = blocks g p.memory.fixed; globals = x; main = p.kernel.main } in s) (globals_same 0 p.globals)

pub are_survivors : (p : Program) (w : Walk) (s : Survivors) → IsOver p w → s ≡ survivors p w.order (flagged w) → IsSurvivors p s
are_survivors p w s h e = record { found = w.order; walk = h.ended; is = e ∙ survivors_same p (flagged w) (has w.order) h.flags w.order }
