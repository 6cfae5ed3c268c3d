-- What a call answered, in words of the grammar.
-- For: read_all, read_text
use Rattle.std.proofs.Common.{◌≡◌, ℕ, ◌*◌, ◌≤◌, List, length, arith, Result, Ok, Err, sym, ◌∙◌, subst}
use Rattle.std.specs.Prelude.{IfOk, IfErr}
use Rattle.ps_base.specs.declared.faults.Refusal.{Refusal}
use Rattle.ps_base.specs.declared.faults.Refusal.TheVariants as r
use Rattle.ps_datum.specs.declared.datum.Datum.{Datum}
use Rattle.ps_datum.specs.Weight.{weights}
use Rattle.ps_read.specs.declared.token.Breach.{Breach}
use Rattle.ps_read.specs.Grammar.{AreData}
use Rattle.ps_read.specs.Breaches.{FirstBreach}
use Rattle.ps_read.specs.InsideMachine.{Answer}
use Rattle.ps_read.specs.Lexical.{Table, tokens_of, listed, start}
use Rattle.ps_read.specs.Reading.{AllKnown, Reads, Refuses, IsSyntax, IsReadUnlessMemory, IsBreachUnlessMemory}
use Rattle.ps_read.specs.InsideReading.{Gives, answer}
use Rattle.ps_read.proofs.DataAreSmallAndKnown.{weights_within, names_known}
use Rattle.ps_read.proofs.TokensFitTables.{tokens_fit, few_tokens}
use Rattle.ps_read.proofs.MachineReadsOnlyData.{Says, answered, is_read, is_refused}

says : (names : Table) (file : ℕ) (text : List ℕ) → Says (tokens_of names file text) (answer names file text)
unfolding answer
says names file text = answered (tokens_of names file text)

module _ (names : Table) (file : ℕ) (text : List ℕ) where
  pub are_data : (ds : List Datum) → answer names file text ≡ Ok ds → AreData (tokens_of names file text) ds
  are_data ds h = subst (λ (a : Answer). Says (tokens_of names file text) a) h (says names file text)

  pub read : (x : Result (List Datum) Refusal) (behind : Table) → Gives x (answer names file text) → IfOk x (λ ds. behind ≡ listed names 0 text) → IfOk x (λ ds. Reads names file text ds behind)
  read (Ok ds) behind h l = record { data_are = are_data ds h; names_are = l }
  read (Err e) behind h l = tt

  pub refused : (x : Result (List Datum) Refusal) → Gives x (answer names file text) → IfErr x (λ e. Refuses e (tokens_of names file text))
  refused (Ok ds) h = tt
  refused (Err r.NoMemory) h = tt
  refused (Err (r.Fault f)) h = (h.0, h.1, subst (λ (a : Answer). Says (tokens_of names file text) a) h.2 (says names file text))

  pub is_answer : (ds : List Datum) → AreData (tokens_of names file text) ds → answer names file text ≡ Ok ds
  unfolding answer
  is_answer ds are = is_read (tokens_of names file text) ds are

  pub only : (x : Result (List Datum) Refusal) → Gives x (answer names file text) → (ds : List Datum) → AreData (tokens_of names file text) ds → IsReadUnlessMemory x ds
  only (Ok es) h ds are = let e : Ok es ≡ Ok ds = sym h ∙ is_answer ds are in cc
  only (Err r.NoMemory) h ds are = tt
  only (Err (r.Fault f)) h ds are = let e : Err h.0 ≡ Ok ds = sym h.2 ∙ is_answer ds are in absurd cc

  is_breach : (b : Breach) → FirstBreach (tokens_of names file text) b → answer names file text ≡ Err b
  unfolding answer
  is_breach b is = is_refused (tokens_of names file text) b is

  pub first : (x : Result (List Datum) Refusal) → Gives x (answer names file text) → (b : Breach) → FirstBreach (tokens_of names file text) b → IsBreachUnlessMemory x b
  first (Ok es) h b is = let e : Ok es ≡ Err b = sym h ∙ is_breach b is in absurd cc
  first (Err r.NoMemory) h b is = tt
  first (Err (r.Fault f)) h b is =
      let e : Err h.0 ≡ Err b = sym h.2 ∙ is_breach b is in
      let same : h.0 ≡ b = cc in
      subst (IsSyntax f) same h.1

  pub small : (x : Result (List Datum) Refusal) → Gives x (answer names file text) → IfOk x (λ ds. weights ds ≤ 3 * length text)
  small (Ok ds) h =
      omega (arith, weights_within (listed names 0 text) (are_data ds h) (tokens_fit names 0 (start file) text), few_tokens names 0 (start file) text)
  small (Err e) h = tt

  pub known : (x : Result (List Datum) Refusal) (behind : Table) → Gives x (answer names file text) → IfOk x (λ ds. behind ≡ listed names 0 text) → IfOk x (λ ds. AllKnown behind ds)
  known (Ok ds) behind h l = subst (λ (t : Table). AllKnown t ds) (sym l) (names_known (listed names 0 text) (are_data ds h) (tokens_fit names 0 (start file) text))
  known (Err e) behind h l = tt
