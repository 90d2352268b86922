-- The color stage: what it is lent, what it promises, and what its tables hold from color to color. A constraint is the list of its bodies,
-- of whatever length.
use Rattle.std.specs.Prelude.{ℕ, suc, ◌+◌, ◌-◌, ◌≤◌, ◌<◌, ◌≡◌, Bool, true, ◌&&◌, List, [], leb, ltb, length, get_or, take}
use Rattle.lists.specs.Basics.{one, any, all, mem, filter, range, over}
use Rattle.groups.specs.Groups.{flagged, colors_of, group_count, members, flatten, offsets}

-- the sizes of what is lent, and bodies that exist; of what the tables hold nothing is asked
pub record Ready (flags : List ℕ) (cs : List (List ℕ)) (remaining colors starts colored busy : List ℕ) : Type 0 where
  pub sized : length colors ≡ length cs
  pub few : length colors ≤ 8192
  pub bodies : all (λ bs. all (λ b. ltb b (length flags)) bs) cs ≡ true
  pub room : length colors ≤ length remaining
  pub starts_length : length starts ≡ length colors + 1
  pub members_length : length colored ≡ length colors
  pub busy_length : length busy ≡ length flags

-- the colors, how many groups they make, the members of all groups and where each group starts, with the end; no body is left busy
pub record Colored (flags : List ℕ) (cs : List (List ℕ)) (starts colors' starts' colored' busy' : List ℕ) (color_count : ℕ) : Type 0 where
  pub colors_are : colors' ≡ colors_of flags cs
  pub count_is : color_count ≡ group_count (colors_of flags cs)
  pub starts_are : starts' ≡ over (offsets (members (colors_of flags cs)) color_count) starts
  pub members_are : colored' ≡ flatten (members (colors_of flags cs)) color_count
  pub idle : (b : ℕ) → b < length flags → get_or busy' b 0 ≡ 0

-- ---- a walk for each color

-- the color that constraint r is promised
abbrev pub promised : List ℕ → List (List ℕ) → ℕ → ℕ
promised flags cs r = get_or (colors_of flags cs) r 0

-- the constraints that are promised color k or a higher one, in list order
unfoldable pub uncolored : List ℕ → List (List ℕ) → ℕ → List ℕ
uncolored flags cs k = filter (λ r. leb k (promised flags cs r)) (range (length cs))

-- a body is on one of the constraints ms
abbrev pub touched : List (List ℕ) → List ℕ → ℕ → Bool
touched cs ms b = any (λ r. mem b (get_or cs r [])) ms

-- color k is opened: the first `count` of the remaining are the constraints still uncolored, the groups of the lower colors are listed up
-- to place `start`, and no body is busy
pub record Opened (flags : List ℕ) (cs : List (List ℕ)) (k start count : ℕ) (remaining colored busy : List ℕ) : Type 0 where
  pub few : length cs ≤ 8192
  pub bodies : all (λ bs. all (λ b. ltb b (length flags)) bs) cs ≡ true
  pub room : length cs ≤ length remaining
  pub members_length : length colored ≡ length cs
  pub busy_length : length busy ≡ length flags
  pub counted : start + count ≡ length cs
  pub listed : take count remaining ≡ uncolored flags cs k
  pub grouped : take start colored ≡ flatten (members (colors_of flags cs)) k
  pub idle : (b : ℕ) → b < length flags → get_or busy b 0 ≡ 0

-- its walk is made: uncolored are left exactly the constraints promised a higher color, the others are listed as group k, and busy are the
-- dynamic bodies on them
pub record Walked (flags : List ℕ) (cs : List (List ℕ)) (k start count left : ℕ) (remaining' colored' busy' : List ℕ) : Type 0 where
  pub counted : left ≤ count
  pub left_are : take left remaining' ≡ uncolored flags cs (k + 1)
  pub grouped : take (start + (count - left)) colored' ≡ flatten (members (colors_of flags cs)) (suc k)
  pub busy_are : (b : ℕ) → b < length flags → get_or busy' b 0 ≡ one (flagged flags b && touched cs (members (colors_of flags cs) k) b)
