-- Definitions at the head of a body.
-- For: heads, head_defines
use Rattle.std.proofs.Common.{◌≡◌, ℕ, suc, ◌<◌, Bool, true, List, ◌∷◌, length, get_or, drop, drop-cons, sym, ap, subst, ◌∙◌, Err}
use Rattle.ps_base.specs.declared.faults.Place.{Place}
use Rattle.ps_pattern.specs.declared.syntax.Ident.{Ident}
use Rattle.ps_pattern.specs.declared.syntax.Syntax.{Syntax}
use Rattle.ps_scope.specs.Environments.{Env}
use Rattle.ps_hygiene.specs.Forms.{shape}
use Rattle.ps_hygiene.specs.Runs.{Step, Goes, Run, and_then}
use Rattle.ps_expansion.specs.States.{Task, State, settled}
use Rattle.ps_expansion.specs.declared.expansion.Expansion.{Expansion}
use Rattle.ps_expansion.specs.declared.stop.Stop.{Stop}
use Rattle.ps_expansion.specs.declared.stop.Stop.TheVariants as stops
use Rattle.ps_bodies.specs.Bodies.{Headed, heads, head_is, head_defines, is_define}
use Rattle.ps_bodies.specs.InsideBodies.{Heads_are, Names}

-- where a definition is refused, the head is
refused : (all : List Syntax) (e : Stop) (want : Step State (Ident × ℕ)) (f : Ident × ℕ → Run State Headed) (env : Env)
    (now new : Expansion)
    → Names (Err e) want env now → Heads_are all (Err e) (and_then want f) new
refused all (stops.Fault fault) want f env now new h = record { wanted = ap (λ (w : Step State (Ident × ℕ)). and_then w f) h.wanted }
refused all stops.NoMemory want f env now new h = tt

pub head_is_refused : (task : Task) (at : Place) (all : List Syntax) (i n : ℕ) (f g g' g'' : Syntax) (env env' : Env) (ds : List Syntax)
    (ls : List ℕ) (s t : State) (told : Bool) (e : Stop) (want : Step State Headed) (now new : Expansion)
    → i < length all → f ≡ get_or all i f → settled task.limits env f s ≡ Goes g t → env' ≡ env
    → g' ≡ g → told ≡ is_define (shape t.world env' g') → told ≡ true
    → n ≡ length ls → g'' ≡ g → Names (Err e) (head_defines task at n env' g'' t) env' now
    → heads task at (drop i all) env ds ls s ≡ want → Heads_are all (Err e) want new
head_is_refused task at all i n f g g' g'' env env' ds ls s t told e want now new lt is went same form tells so count form' h inv =
    let fs : List Syntax = drop (suc i) all in
    let rest : heads task at (drop i all) env ds ls s
    ≡ and_then (settled task.limits env f s)
    (λ g s. head_is task (heads task at fs) at env ds ls g fs (is_define (shape s.world env g)) s)
    = ap (λ (xs : List Syntax). heads task at xs env ds ls s) (drop-cons all i f lt ∙ ap (λ (x : Syntax). x ∷ fs) (sym is)) in
    let defines : is_define (shape t.world env g) ≡ true
    = ap (λ (e : Env). is_define (shape t.world e g)) (sym same) ∙ ap (λ (x : Syntax). is_define (shape t.world env' x)) (sym form)
    ∙ sym tells ∙ so in
    let first : heads task at (drop i all) env ds ls s ≡ head_is task (heads task at fs) at env ds ls g fs true t
    = rest ∙ ap (λ (w : Step State Syntax). and_then w
    (λ g s. head_is task (heads task at fs) at env ds ls g fs (is_define (shape s.world env g)) s)) went
    ∙ ap (λ (b : Bool). head_is task (heads task at fs) at env ds ls g fs b t) defines in
    let h' : Names (Err e) (head_defines task at (length ls) env g t) env now = rw (same, form', count) at h in
    subst (λ (w : Step State Headed). Heads_are all (Err e) w new) (sym first ∙ inv)
    (refused all e (head_defines task at (length ls) env g t) _ env now new h')
