use Rattle.std.proofs.Common.{ap, ◌∙◌, List, None}
use Rattle.ps_kernel.specs.declared.kernel.Form.{Form}
use Rattle.ps_static_tables.specs.InsideTables.{defined_among}
use Rattle.ps_static_tables.proofs.TablesTellFirst.{locals_are, procedures_are}
use Rattle.ps_static_tables.proofs.tables.tables_of.Goals as goal

pub returns : goal.returns
returns c = record {
  locals = λ x. c.in_ok-locals.ensures x ∙ locals_are c.args.kernel.now c.as_slice.result.now x (c.as_slice.ensures ∙ c.in_ok-entries.ensures);
  procedures = λ g.
      c.in_ok-procedures.ensures g
      ∙ ap (λ (fs : List Form). defined_among g fs None) c.as_slice-2.ensures
      ∙ procedures_are g c.args.kernel.now.forms;
}
