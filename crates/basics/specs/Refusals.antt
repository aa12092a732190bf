-- Document 01, "Numbered answers": the number of each refusal, and 0 for what is done. Assumes nothing.
use Rattle.std.specs.Prelude.{ℕ, Result, Ok, Err}
use Rattle.basics.specs.declared.refusal.Refusal.{Refusal}
use Rattle.basics.specs.declared.refusal.Refusal.TheVariants.{Unsound, Image, Straps, Times, Stream, Room, Overvolted, Layout, Busy, Unready}

abbrev pub code_of : Refusal → ℕ
code_of Unsound = 1
code_of Image = 2
code_of Straps = 3
code_of Times = 4
code_of Stream = 5
code_of Room = 6
code_of Overvolted = 7
code_of Layout = 8
code_of Busy = 9
code_of Unready = 10

abbrev pub number_of : {A : Type 0} → Result A Refusal → ℕ
number_of (Ok a) = 0
number_of (Err r) = code_of r
