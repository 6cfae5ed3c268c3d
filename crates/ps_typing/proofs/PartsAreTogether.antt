-- Numbered parts are the groups, and the lowest that is not listed is ready.
-- For: `parts_are_together` and `some_is_ready`
use Rattle.std.proofs.Common.{◌≡◌, ℕ, ◌<◌, ◌≤◌, true, false, List, sym, arith, inl, inr, ⊎_elim}
use Rattle.std.specs.Prelude.{◌⊎◌, ◌↔◌, ◌==◌}
use Rattle.std.proofs.lemmas.Bool.{eqb-true}
use Rattle.ps_kernel.specs.Lists.{stands_in}
use Rattle.ps_kernel.proofs.NumbersStandInLists.{either}
use Rattle.ps_typing.specs.Order.{Graph, Reaches, itself, through, Together, IsReady, IsClosed, AreParts}
use Rattle.ps_typing.specs.Laws.{PartsAreTogether, SomeIsReady}

module _ (g : Graph) (part : ℕ → ℕ) (c : IsClosed g) (h : AreParts g part) where
  -- what a node reaches is a node
  pub reaches_nodes : (d e : ℕ) → g.is_node d ≡ true → Reaches g d e → g.is_node e ≡ true
  reaches_nodes d e on itself = on
  reaches_nodes d e on (through f w s n) = c.closed f w (reaches_nodes d f on s) n

  pub falls : (d e : ℕ) → g.is_node d ≡ true → Reaches g d e → part e ≤ part d
  falls d e on itself = omega arith
  falls d e on (through f w s n) =
      let below = falls d f on s in
      let step = h.lower f w (reaches_nodes d f on s) n in
      omega arith

  pub same_part : (d e : ℕ) → g.is_node d ≡ true → g.is_node e ≡ true → Together g d e → part d ≡ part e
  same_part d e dn en t = let a = falls d e dn t.there in let b = falls e d en t.back in omega arith

  pub parts_together : (d e : ℕ) → g.is_node d ≡ true → g.is_node e ≡ true → (part d ≡ part e) ↔ Together g d e
  parts_together d e dn en = (h.connected d e dn en, same_part d e dn en)

  below_or_same : (a b : ℕ) → a ≤ b → (a ≡ b) ⊎ (a < b)
  below_or_same a b le = ⊎_elim (λ (t : (a == b) ≡ true). inl (eqb-true a b t)) (λ (t : (a == b) ≡ false). inr (grind (arith, t, le))) (either (a == b))

  pub some_ready : (listed : List ℕ) (d : ℕ) → g.is_node d ≡ true → stands_in d listed ≡ false → ((e : ℕ) → g.is_node e ≡ true → part e < part d → stands_in e listed ≡ true) → IsReady g listed d
  some_ready listed d dn off all = record {
    node = dn;
    unlisted = off;
    others = λ e f t n.
        (let en = reaches_nodes d e dn t.there in
        let fn = c.closed e f en n in
        let same = same_part d e dn en t in
        let low = h.lower e f en n in
        ⊎_elim (λ (a : part f ≡ part d). inl (h.connected d f dn fn (sym a))) (λ (b : part f < part d). inr (all f fn b)) (below_or_same (part f) (part d) (omega arith)));
  }

pub parts_are_together : PartsAreTogether
parts_are_together = parts_together

pub some_is_ready : SomeIsReady
some_is_ready = some_ready
