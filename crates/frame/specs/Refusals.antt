-- Refusals: the number of the question that got the first "no".
use Rattle.std.specs.Prelude.{ℕ, Result, Ok, Err}
use Rattle.frame.specs.declared.refusal.Refusal.{Refusal}
use Rattle.frame.specs.declared.refusal.Refusal.TheVariants.{Version, FileLength, TooMany, Lengths, Values, Room, Endpoints, BodyList, Positions, LowerTaken, HigherTaken, NoConstraint, NoPair}

abbrev pub number_of : Refusal → ℕ
number_of Version = 1
number_of FileLength = 2
number_of TooMany = 3
number_of Lengths = 4
number_of Values = 5
number_of Room = 6
number_of Endpoints = 7
number_of BodyList = 8
number_of Positions = 9
number_of LowerTaken = 10
number_of HigherTaken = 11
number_of NoConstraint = 12
number_of NoPair = 13

-- the number of an answer: its refusal's, or 0 where it is none
abbrev pub refused_by : {A : Type 0} → Result A Refusal → ℕ
refused_by (Ok _) = 0
refused_by (Err r) = number_of r
