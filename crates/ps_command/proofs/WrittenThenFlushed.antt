-- A text that is written to a sink, which then hands on what it holds back, is delivered.
-- For: deliver, tell
use Rattle.std.proofs.Common.{ℕ, ◌≤◌, inl, inr, List, [], ◌++◌, Result, Ok, Err, sym, subst, arith}
use Rattle.std.proofs.lemmas.List.{append-nil}
use Rattle.ps_base.specs.Numbers.{Rose}
use Rattle.ps_base.specs.SinkStates.{SinkState}
use Rattle.ps_base.specs.Sinks.{Appended, Cut, Writes, Flushes}
use Rattle.ps_base.specs.declared.sink.SinkFault.{SinkFault}
use Rattle.ps_base.proofs.Writing.{appended_join, rose_after}
use Rattle.ps_command.specs.Answers.{LineWritten, IsHandedOn}
use Rattle.ps_command.specs.Inside.{Delivers}

appended_still : (s t u : SinkState) (text : List ℕ) → Appended s t text → Appended t u [] → Appended s u text
appended_still s t u text h k = subst (λ (x : List ℕ). Appended s u x) (append-nil text) (appended_join s t u text [] h k)

rose_still : (a b c : ℕ) → Rose a b → b ≤ c → Rose a c
rose_still a b c h le = omega arith

cut_still : (s t u : SinkState) (text : List ℕ) → Cut s t text → Appended t u [] → Cut s u text
cut_still s t u text h k = record {
  front = h.front;
  rest = h.rest;
  parts = h.parts;
  appended = appended_still s t u h.front h.appended k;
  rose = rose_still s.faults t.faults u.faults h.rose k.faults;
}

cut_behind : (s t u : SinkState) (text : List ℕ) → Appended s t text → Appended t u [] → Rose t.faults u.faults → Cut s u text
cut_behind s t u text h k r = record {
  front = text;
  rest = [];
  parts = sym (append-nil text);
  appended = appended_still s t u text h k;
  rose = rose_after s.faults t.faults u.faults h.faults r;
}

pub delivered : (s t u : SinkState) (text : List ℕ) (r : Result (Unit {0}) SinkFault) → Appended s t text → Flushes t u r → Delivers s u text r
delivered s t u text (Ok x) h k = (appended_still s t u text h k.0, k.1)
delivered s t u text (Err e) h k = cut_behind s t u text h k.0 k.1

nothing_more : (t u : SinkState) (r : Result (Unit {0}) SinkFault) → Flushes t u r → Appended t u []
nothing_more t u (Ok x) k = k.0
nothing_more t u (Err e) k = k.0

no_fewer : (s t : SinkState) (text : List ℕ) (q : Result (Unit {0}) SinkFault) → Writes s t text q → s.faults ≤ t.faults
no_fewer s t text (Ok x) h = h.faults
no_fewer s t text (Err e) h = h.appended.faults

pub line_told : (s t u : SinkState) (line : List ℕ) (q r : Result (Unit {0}) SinkFault) → Writes s t line q → Flushes t u r → LineWritten s u line
line_told s t u line (Ok x) r h k = inl (appended_still s t u line h (nothing_more t u r k))
line_told s t u line (Err e) r h k = inr (cut_still s t u line h (nothing_more t u r k))

pub handed_on : (s t u : SinkState) (line : List ℕ) (q r : Result (Unit {0}) SinkFault) → Writes s t line q → Flushes t u r → IsHandedOn s u
handed_on s t u line q (Ok x) h k = inl k.1
handed_on s t u line q (Err e) h k = inr (rose_after s.faults t.faults u.faults (no_fewer s t line q h) k.1)
