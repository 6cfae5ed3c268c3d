-- What tables say that are made a number at a time. No public clause cites this file.
use Rattle.std.specs.Prelude.{ℕ, ◌==◌, List, [], ◌∷◌, Option, Some, if◌then◌else◌}
use Rattle.ps_kernel.specs.declared.expr.GroupEntry.{GroupEntry}
use Rattle.ps_kernel.specs.declared.kernel.Form.{Form}
use Rattle.ps_kernel.specs.declared.kernel.Form.TheVariants.{Define, Do}
use Rattle.ps_kernel.specs.Texts.{lambda_in}

-- what a table says of m where n has this lambda, and it said this before
abbrev pub lambda_for : ℕ → Option ℕ → ℕ → Option ℕ → Option ℕ
lambda_for n l m before = if m == n then l else before

-- the lambda of the first entry of a local, or else this
abbrev pub lambda_among : ℕ → List GroupEntry → Option ℕ → Option ℕ
lambda_among x [] o = o
lambda_among x (e ∷ es) o = if x == e.local then Some e.lambda else lambda_among x es o

-- the lambda by which the first form of a definition defines it, or else this
abbrev pub defined_among : ℕ → List Form → Option ℕ → Option ℕ
defined_among g [] o = o
defined_among g (Define d e ∷ fs) o = if g == d then lambda_in e else defined_among g fs o
defined_among g (Do e ∷ fs) o = defined_among g fs o
