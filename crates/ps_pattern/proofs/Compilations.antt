-- What a form compiles to depends on the numbers of `...` and `syntax-rules` alone.
-- For: compile_rules
use Rattle.std.proofs.Common.{◌≡◌, ℕ, List, ap, sym, ◌∙◌, Option}
use Rattle.ps_pattern.specs.declared.syntax.Syntax.{Syntax}
use Rattle.ps_pattern.specs.declared.transcription.Rule.{Rule}
use Rattle.ps_pattern.specs.Compiling.{compiled}

pub compiled_is : (f : Syntax) (dots keyword dots_found keyword_found : Option ℕ) (read want : Option (List Rule)) → dots_found ≡ dots → keyword_found ≡ keyword → read ≡ compiled dots_found keyword_found f → read ≡ want → compiled dots keyword f ≡ want
compiled_is f dots keyword dots_found keyword_found read want d k is e = ap (λ z. compiled z keyword f) (sym d) ∙ ap (λ z. compiled dots_found z f) (sym k) ∙ sym is ∙ e
