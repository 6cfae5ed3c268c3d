-- Where these are the files, a walk comes to one end alone.
-- For: walk_has_one_end
use Rattle.std.proofs.Common.{◌≡◌, ℕ, ◌<◌, ◌≤◌, List, length, Option, Some, Err, refl, sym, ap, ◌∙◌, subst, arith}
use Rattle.ps_base.proofs.Choices.{some_same, none_some, ok_same, err_ok}
use Rattle.ps_base.specs.declared.faults.Fault.TheVariants as faults
use Rattle.ps_base.specs.declared.faults.Refusal.TheVariants as refusals
use Rattle.ps_datum.specs.declared.datum.Datum.{Datum}
use Rattle.ps_library.specs.LibraryStates.{Files}
use Rattle.ps_modules.specs.Linking.{Answered, done, stopped, found, unreadable, too_long, missing}
use Rattle.ps_modules.specs.Playing.{Outcome}
use Rattle.ps_modules.specs.Runs.{Run}
use Rattle.ps_modules.specs.Walking.{next_number}
use Rattle.ps_read.proofs.MachineReadsOnlyData.{is_read, is_refused}
use Rattle.ps_read.specs.Breaches.{FirstBreach}
use Rattle.ps_read.specs.Grammar.{AreData}
use Rattle.ps_read.specs.Lexical.{tokens_of}
use Rattle.ps_read.specs.Reading.{Reads}
use Rattle.ps_read.specs.declared.token.Breach.{Breach}
use Rattle.ps_read.specs.declared.token.Token.{Token}

same_data : (ts : List Token) (ds es : List Datum) → AreData ts ds → AreData ts es → ds ≡ es
same_data ts ds es h k = ok_same (sym (is_read ts ds h) ∙ is_read ts es k)

same_breach : (ts : List Token) (a b : Breach) → FirstBreach ts a → FirstBreach ts b → a ≡ b
same_breach ts a b h k = let x = sym (is_refused ts a h) ∙ is_refused ts b k in cc

not_both : {A : Type 0} (ts : List Token) (ds : List Datum) (b : Breach) → AreData ts ds → FirstBreach ts b → A
not_both ts ds b h k = err_ok (sym (is_refused ts b k) ∙ is_read ts ds h)

same_text : (o : Option (List ℕ)) (s t : List ℕ) → o ≡ Some s → o ≡ Some t → s ≡ t
same_text o s t h k = some_same (sym h ∙ k)

too_short : {A : Type 0} (s t : List ℕ) (room : ℕ) → s ≡ t → length s ≤ room → room < length t → A
too_short s t room e h k = let x = ap length e in absurd (omega arith)

pub one_end : (files : Files) (run : Run) (one other : Outcome) → Answered files run one → Answered files run other → one ≡ other
one_end files run one other done done = refl
one_end files run one other stopped stopped = refl
one_end files run one other (found {name = name} {count = count} {table = table} {behind = behind} {goes_on = goes_on} {text = text} {ds = ds} is fits reads rest) (found {behind = later} {text = twin} {ds = es} at small reading end) =
    let texts = same_text (files name) twin text at is in
    let again : Reads table (next_number count) text es later = subst (λ t. Reads table (next_number count) t es later) texts reading in
    let same = same_data (tokens_of table (next_number count) text) es ds again.data_are reads.data_are in
    let tables = again.names_are ∙ sym reads.names_are in
    one_end files (goes_on text ds behind) one other rest
    (subst (λ t. Answered files (goes_on text ds t) other) tables
    (subst (λ xs. Answered files (goes_on text xs later) other) same
    (subst (λ t. Answered files (goes_on t es later) other) texts end)))
one_end files run one other (found {name = name} {count = count} {table = table} {text = text} {ds = ds} is fits reads rest) (unreadable {text = twin} {breach = breach} at small first) =
    not_both (tokens_of table (next_number count) text) ds breach reads.data_are
    (subst (λ t. FirstBreach (tokens_of table (next_number count) t) breach) (same_text (files name) twin text at is) first)
one_end files run one other (found {name = name} {text = text} is fits reads rest) (too_long {text = twin} at longer) = too_short text twin _ (same_text (files name) text twin is at) fits longer
one_end files run one other (found is fits reads rest) (missing none) = none_some (sym none ∙ is)
one_end files run one other (unreadable {name = name} {count = count} {table = table} {text = text} {breach = breach} is fits first) (found {text = twin} {ds = es} at small reading end) =
    not_both (tokens_of table (next_number count) twin) es breach reading.data_are
    (subst (λ t. FirstBreach (tokens_of table (next_number count) t) breach) (same_text (files name) text twin is at) first)
one_end files run one other (unreadable {name = name} {count = count} {table = table} {text = text} {breach = breach} is fits first) (unreadable {text = twin} {breach = breach_2} at small second) =
    ap (λ (b : Breach). Err (refusals.Fault (faults.Syntax b.kind b.place)))
    (same_breach (tokens_of table (next_number count) text) breach breach_2 first
    (subst (λ t. FirstBreach (tokens_of table (next_number count) t) breach_2) (same_text (files name) twin text at is) second))
one_end files run one other (unreadable {name = name} {text = text} is fits first) (too_long {text = twin} at longer) = too_short text twin _ (same_text (files name) text twin is at) fits longer
one_end files run one other (unreadable is fits first) (missing none) = none_some (sym none ∙ is)
one_end files run one other (too_long {name = name} {text = text} is longer) (found {text = twin} at small reading end) = too_short twin text _ (same_text (files name) twin text at is) small longer
one_end files run one other (too_long {name = name} {text = text} is longer) (unreadable {text = twin} at small first) = too_short twin text _ (same_text (files name) twin text at is) small longer
one_end files run one other (too_long is longer) (too_long at more) = refl
one_end files run one other (too_long is longer) (missing none) = none_some (sym none ∙ is)
one_end files run one other (missing none) (found at small reading end) = none_some (sym none ∙ at)
one_end files run one other (missing none) (unreadable at small first) = none_some (sym none ∙ at)
one_end files run one other (missing none) (too_long at more) = none_some (sym none ∙ at)
one_end files run one other (missing none) (missing again) = refl
