-- The limits that the program runs with (this project's own).
use Rattle.std.specs.Prelude.{ℕ}
use Rattle.ps_base.specs.declared.limits.Limits.{Limits}

-- how many things of one kind there are at most, so that numbers of 32 bits name them
abbrev pub most_numbered : ℕ
most_numbered = 4294967295

-- how deep lists, vectors and quotes of a text may nest
abbrev pub most_levels : ℕ
most_levels = 200

abbrev pub standard_limits : Limits
standard_limits = record {
  text_bytes = 4194304;
  all_bytes = 16777216;
  transcriptions = 100000;
  transcribed = 10000000;
  nodes = 1000000;
  depth = 1000;
  budget = 1000000;
  cells = 16000000;
  keys = 4096;
  nested = 200;
  leaves = 127;
  code = 2000000;
}
