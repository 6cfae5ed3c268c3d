-- Bodies: the writes before the value.
-- For: `procedure` and `writes`, and the operands in `expr`
use Rattle.std.proofs.Common.{◌≡◌, ℕ, List, [], ◌∷◌, ◌++◌, map, length, Some, None, refl, sym, ap, ◌∙◌, get_or, arith}
use Rattle.std.specs.Prelude.{Option}
use Rattle.std.proofs.lemmas.List.{map-append}
use Rattle.ps_base.specs.declared.faults.Place.{Place}
use Rattle.ps_base.specs.declared.names.Name.{Name}
use Rattle.ps_datum.specs.declared.datum.Datum.{Datum}
use Rattle.ps_plain.specs.declared.program.Expr.{Expr}
use Rattle.ps_plain.specs.declared.program.Write.{Write}
use Rattle.ps_plain.specs.declared.program.Procedure.{Procedure}
use Rattle.ps_plain.specs.Forms.{Scope, Part, part, Body, all_some, and_also, body_of, body_by, conditional_by, conditional_of, value_by, procedure_by}
use Rattle.ps_resolve.specs.declared.program.Unresolved.{Unresolved}
use Rattle.ps_resolve.specs.declared.program.Unresolved.TheVariants.{NotProgram, NoMemory}
use Rattle.ps_resolve.specs.InsideAnswers.{RefusesBy}
use Rattle.ps_resolve.specs.InsideDefinitions.{procedure_at}

abbrev whole : Option (List Write) → Option Expr → Option Body
whole (Some ws) (Some e) = Some (record { writes = ws; value = e })
whole _ _ = None

no_writes : (e : Option Expr) → value_by e ≡ whole (Some []) e
no_writes None = refl
no_writes (Some e) = refl

one_write : (w : Option Write) (ws : Option (List Write)) (e : Option Expr) → body_by w (whole ws e) ≡ whole (and_also w ws) e
one_write None ws e = refl
one_write (Some w) None e = refl
one_write (Some w) (Some ws) None = refl
one_write (Some w) (Some ws) (Some e) = refl

body_is : (s : Scope) (ps : List Part) (q : Part) → body_of s (ps ++ q ∷ []) ≡ whole (all_some (map (λ (p : Part). p.write s) ps)) (q.expr s)
body_is s [] q = no_writes (q.expr s)
body_is s (p ∷ []) q = ap (body_by (p.write s)) (body_is s [] q) ∙ one_write (p.write s) (Some []) (q.expr s)
body_is s (p ∷ r ∷ ps) q = ap (body_by (p.write s)) (body_is s (r ∷ ps) q) ∙ one_write (p.write s) (all_some (map (λ (p : Part). p.write s) (r ∷ ps))) (q.expr s)

abbrev with_parameters : Place → Name → ℕ → List Write → Expr → Option Procedure
with_parameters p f n ws e = Some (record { place = p; name = f; parameters = n; writes = ws; value = e })

module _ (names : List (List ℕ)) (p : Place) (f : Name) (s : Scope) (body front : List Datum) (last : Datum) (is : body ≡ front ++ last ∷ []) where
  parts_are : body_of s (map (part names) body) ≡ whole (all_some (map (λ (p : Part). p.write s) (map (part names) front))) ((part names last).expr s)
  parts_are = ap (λ z. body_of s (map (part names) z)) is ∙ ap (body_of s) (map-append (part names) front (last ∷ [])) ∙ body_is s (map (part names) front) (part names last)

  pub refuses_writes : (e : Unresolved) → RefusesBy e (all_some (map (λ (p : Part). p.write s) (map (part names) front))) → RefusesBy e (procedure_at names p (Some f) s body)
  refuses_writes NotProgram h = ap (λ b. procedure_by p s b (Some f)) (parts_are ∙ ap (λ ws. whole ws ((part names last).expr s)) h)
  refuses_writes NoMemory h = tt

  module _ (ws : List Write) (writes : all_some (map (λ (p : Part). p.write s) (map (part names) front)) ≡ Some ws) where
    pub refuses_value : (e : Unresolved) → RefusesBy e ((part names last).expr s) → RefusesBy e (procedure_at names p (Some f) s body)
    refuses_value NotProgram h = ap (λ b. procedure_by p s b (Some f)) (parts_are ∙ (λ i. whole (writes i) (h i)))
    refuses_value NoMemory h = tt

    pub whole_procedure : (e : Expr) (n : ℕ) → (part names last).expr s ≡ Some e → n ≡ length s.parameters → procedure_at names p (Some f) s body ≡ Some (record { place = p; name = f; parameters = n; writes = ws; value = e })
    whole_procedure e n h m =
        ap (λ b. procedure_by p s b (Some f)) (parts_are ∙ (λ i. whole (writes i) (h i)))
        ∙ ap (λ k. with_parameters p f k ws e) (sym m)

-- a conditional of three parts
pub conditional_is : (names : List (List ℕ)) (s : Scope) (p : Place) (ds : List Datum) (t c d : Datum) → length ds ≡ 3 → t ≡ get_or ds 0 t → c ≡ get_or ds 1 c → d ≡ get_or ds 2 d → conditional_of s p (map (part names) ds) ≡ conditional_by p ((part names t).test s) ((part names c).expr s) ((part names d).expr s)
conditional_is names s p [] t c d long a b e = absurd (omega arith)
conditional_is names s p (x ∷ []) t c d long a b e = absurd (omega arith)
conditional_is names s p (x ∷ y ∷ []) t c d long a b e = absurd (omega arith)
conditional_is names s p (x ∷ y ∷ z ∷ []) t c d long a b e = sym (λ i. conditional_by p ((part names (a i)).test s) ((part names (b i)).expr s) ((part names (e i)).expr s))
conditional_is names s p (x ∷ y ∷ z ∷ w ∷ ds) t c d long a b e = absurd (omega arith)
