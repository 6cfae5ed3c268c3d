-- What is done to the locals of a procedure at its end is not seen behind it, so that a call in tail position needs nothing to
-- come back to.
-- For: `ends_are_unseen`
use Rattle.std.proofs.Common.{◌≡◌, refl}
use Rattle.ps_runs.specs.Runs.{Env, State, Step, Goes, Stops, Run, and_then, ◌>>=◌, ◌>>◌, pure}
use Rattle.ps_runs.specs.Locals.{put_locals, within}

-- behind what a step left, these locals stand
abbrev back : {V A : Type 0} → Env V → Step V A → Step V A
back before r = and_then r (λ a. put_locals before >> pure a)

passed : {V A : Type 0} (before after : Env V) (r : Step V A) → back before (and_then r (λ a. put_locals after >> pure a)) ≡ back before r
passed before after (Goes a s) = refl
passed before after (Stops h s) = refl

pub ends_unseen : {V A : Type 0} (env after : Env V) (p : Run V A) (s : State V) → within env (p >>= (λ a. put_locals after >> pure a)) s ≡ within env p s
ends_unseen env after p s = passed s.locals after (p (record s { locals = env }))
