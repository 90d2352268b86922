-- Question 7 of constraints by their counts is that of live constraints with these endpoints.
use Rattle.std.proofs.Common.{ℕ, ◌≡◌, refl, ap, Bool, ◌&&◌, List, [], ◌∷◌, take, drop}
use Rattle.lists.specs.Basics.{all}
use Rattle.frame.specs.Frames.{counted_of, sound, fits}
use Rattle.groups.specs.Groups.{counted_parts}

pub sound_counted : (n : ℕ) (counts ends : List ℕ) → all (sound n) (counted_of counts ends []) ≡ all (fits n) (counted_parts counts ends)
unfolding sound
sound_counted n [] ends = refl
sound_counted n (c ∷ counts) ends = ap (λ (t : Bool). fits n (take c ends) && t) (sound_counted n counts (drop c ends))
