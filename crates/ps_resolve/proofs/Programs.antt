-- Programs of definitions whose heads were read.
-- For: `program_of`
use Rattle.std.proofs.Common.{◌≡◌, ℕ, ◌≤◌, List, ◌∷◌, ◌++◌, length, Some, sym, ap, ◌∙◌, arith, subst}
use Rattle.std.proofs.lemmas.List.{length-append}
use Rattle.ps_base.specs.Names.{AreDistinct}
use Rattle.ps_datum.specs.declared.datum.Datum.{Datum}
use Rattle.ps_datum.specs.Weight.{weights}
use Rattle.ps_plain.specs.declared.program.Procedure.{Procedure}
use Rattle.ps_plain.specs.declared.program.Program.{Program}
use Rattle.ps_plain.specs.Forms.{IsProgram, heads_of, names_in, procedures_in}
use Rattle.ps_plain.proofs.Order.{same_order}
use Rattle.ps_resolve.specs.declared.definition.Definition.{Definition}
use Rattle.ps_resolve.specs.InsideDefinitions.{IsAround, AreDefinitions, AreProcedures, heads_in}
use Rattle.ps_resolve.proofs.Definitions.{GoodHeads, heads-of_definitions, are_heads, procedures-of_definitions, length-definitions, length-weights}

module _ (names : List (List ℕ)) (forms before : List Datum) (main : Datum) (after : List Datum) (around : IsAround names forms before main after) where
  module _ (p : Program) (is : IsProgram names forms p) where
    order : is.main ∷ (is.before ++ is.after) ≡ main ∷ (before ++ after)
    order = same_order names forms is.before is.after before after is.main main is.heads is.form around.form is.is_main around.is_main is.are_heads is.distinct

    pub good : GoodHeads names (main ∷ (before ++ after))
    good = record { heads = is.heads; are = sym (ap (heads_of names) order) ∙ is.are_heads; good = is.parameters }

  module _ (xs : List Definition) (all : AreDefinitions names (main ∷ (before ++ after)) xs) where
    pub few-definitions : length xs ≤ weights forms
    few-definitions =
        let n = ap length around.form in
        omega (arith, n, length-append before (main ∷ after), length-append before after, length-definitions names (main ∷ (before ++ after)) xs all, length-weights forms)

    pub made : (qs : List Procedure) → AreProcedures names xs qs → IsProgram names forms (record { procedures = qs })
    made qs is = record {
      before = before;
      main = main;
      after = after;
      form = around.form;
      heads = heads_in xs;
      are_heads = heads-of_definitions names (main ∷ (before ++ after)) xs all;
      is_main = around.is_main;
      distinct = is.is_distinct;
      parameters = are_heads names (main ∷ (before ++ after)) xs all;
      procedures = procedures-of_definitions names (main ∷ (before ++ after)) xs all ∙ is.procedures;
    }

    pub procedures-of_program : (p : Program) → IsProgram names forms p → AreProcedures names xs p.procedures
    procedures-of_program p is =
        let e = order p is in
        let heads : Some is.heads ≡ Some (heads_in xs) = sym is.are_heads ∙ ap (heads_of names) e ∙ heads-of_definitions names (main ∷ (before ++ after)) xs all in
        let same : is.heads ≡ heads_in xs = cc in
        record {
          is_distinct = subst (λ hs. AreDistinct (names_in hs)) same is.distinct;
          procedures = sym (procedures-of_definitions names (main ∷ (before ++ after)) xs all) ∙ sym (λ i. procedures_in names (same i) (same i) (e i)) ∙ is.procedures;
        }
