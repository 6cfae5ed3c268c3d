use Rattle.std.proofs.Common.{codes}
use Rattle.ps_library.proofs.Behind.{stripped}
use Rattle.ps_library.proofs.folders.folder_in.Goals as goal

pub returns : goal.returns
returns c = stripped (codes "--path=") c.args.word.now _ c.strip_prefix.ensures.cases
