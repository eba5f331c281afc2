-- Places counted by hand: for each version a table that is not refused, for each field a byte that makes it the first at fault, and
-- for each two that are tested one behind the other a table in which both are (SPECIFICATION 3; document 02, L3, L4, L6 and L9).
-- Assumes nothing.
use Rattle.std.specs.Prelude.{ℕ, ◌≡◌, List, [], ◌∷◌, map, set, Ok, Err}
use Rattle.tables.specs.Refusals.{Check, number_of, place_of}
use Rattle.tables.specs.Checks.{table_check, table_check_spanning}

-- version 1: two tasks, (9, 5, 9) and (30, 4, 30), and two rows; the second record begins at byte 22, the second row at byte 45
abbrev pub right : List ℕ
right =
    1 ∷ 0 ∷ 51 ∷ 2 ∷ 2
    ∷ 2 ∷ 0 ∷ 0 ∷ 0 ∷ 9 ∷ 0 ∷ 0 ∷ 0 ∷ 5 ∷ 0 ∷ 0 ∷ 0 ∷ 9 ∷ 0 ∷ 0 ∷ 0 ∷ 0
    ∷ 1 ∷ 0 ∷ 0 ∷ 0 ∷ 30 ∷ 0 ∷ 0 ∷ 0 ∷ 4 ∷ 0 ∷ 0 ∷ 0 ∷ 30 ∷ 0 ∷ 0 ∷ 0 ∷ 0
    ∷ 0 ∷ 2 ∷ 0 ∷ 0 ∷ 0 ∷ 5
    ∷ 1 ∷ 1 ∷ 0 ∷ 0 ∷ 0 ∷ 4
    ∷ []

-- version 2: the same with delays 1 and 1, 2 and 3; the second record begins at byte 26, its delays at 39 and 43, the second row at 53
abbrev pub right_two : List ℕ
right_two =
    2 ∷ 0 ∷ 59 ∷ 2 ∷ 2
    ∷ 2 ∷ 0 ∷ 0 ∷ 0 ∷ 9 ∷ 0 ∷ 0 ∷ 0 ∷ 5 ∷ 0 ∷ 0 ∷ 0 ∷ 9 ∷ 0 ∷ 0 ∷ 0 ∷ 1 ∷ 0 ∷ 0 ∷ 0 ∷ 1
    ∷ 1 ∷ 0 ∷ 0 ∷ 0 ∷ 30 ∷ 0 ∷ 0 ∷ 0 ∷ 4 ∷ 0 ∷ 0 ∷ 0 ∷ 30 ∷ 0 ∷ 0 ∷ 0 ∷ 2 ∷ 0 ∷ 0 ∷ 0 ∷ 3
    ∷ 0 ∷ 2 ∷ 0 ∷ 0 ∷ 0 ∷ 5
    ∷ 1 ∷ 1 ∷ 0 ∷ 0 ∷ 0 ∷ 4
    ∷ []

-- version 3: the same bytes under its number
abbrev pub right_three : List ℕ
right_three = set right_two 0 3

-- a byte that is changed, and what it is changed to
pub record Write : Type 0 where
  pub byte : ℕ
  pub value : ℕ

-- the bytes that are changed, and the refusal's number and place
pub record Change : Type 0 where
  pub writes : List Write
  pub number : ℕ
  pub place : ℕ

abbrev pub write : ℕ → ℕ → Write
write byte value = record { byte = byte; value = value }

-- one byte makes one fault; two bytes make two, and the refusal is that of the one that is tested first
abbrev pub change : ℕ → ℕ → ℕ → ℕ → Change
change byte value number place = record { writes = write byte value ∷ []; number = number; place = place }

abbrev pub faults : Write → Write → ℕ → ℕ → Change
faults first second number place = record { writes = first ∷ second ∷ []; number = number; place = place }

abbrev pub changed : List ℕ → List Write → List ℕ
changed table [] = table
changed table (w ∷ ws) = changed (set table w.byte w.value) ws

-- n, m; T, C, D, J of the second record; its priority 0, and above that of the first; place, semaphore, length of the second row, and its order
abbrev pub changes : List Change
changes =
    change 3 33 3 3
    ∷ change 4 65 3 4
    ∷ change 26 0 5 23
    ∷ change 30 0 5 27
    ∷ change 34 31 5 31
    ∷ change 35 1 5 35
    ∷ change 22 0 6 22
    ∷ change 22 3 6 22
    ∷ change 45 2 7 45
    ∷ change 46 17 7 46
    ∷ change 50 5 7 47
    ∷ change 45 0 7 45
    ∷ []

-- In versions 2 and 3, T, C, D of the second record; its earliest delay out of range, its earliest above its latest, its latest out of
-- range; its priority 0, and above that of the first; place, semaphore, length of the second row, and its order
abbrev pub field_changes : List Change
field_changes =
    change 30 0 5 27
    ∷ change 34 0 5 31
    ∷ change 38 31 5 35
    ∷ change 39 1 5 39
    ∷ change 42 4 5 43
    ∷ change 43 1 5 43
    ∷ change 26 0 6 26
    ∷ change 26 3 6 26
    ∷ change 53 2 7 53
    ∷ change 54 17 7 54
    ∷ change 58 5 7 55
    ∷ change 53 0 7 53
    ∷ []

-- before them the version; n, m, the length
abbrev pub changes_two : List Change
changes_two = change 0 9 2 0 ∷ change 3 33 3 3 ∷ change 4 65 3 4 ∷ change 2 58 4 0 ∷ field_changes

-- and in version 3 the version; n 0; n 33 and 200, which are allowed and other than the length says; n 201; m, the length
abbrev pub changes_three : List Change
changes_three =
    change 0 4 2 0
    ∷ change 3 0 3 3
    ∷ change 3 33 4 0
    ∷ change 3 200 4 0
    ∷ change 3 201 3 3
    ∷ change 4 65 3 4
    ∷ change 2 58 4 0
    ∷ field_changes

-- Two faults at once, in each neighbouring pair of every order, so that no two that are tested one behind the other can change places: the
-- version and n; n and m; m and the length; the length and a record; T and C; C and D; D and J; J and the priority; T and the priority;
-- the first record's priority and the second one's T; a priority and a row; a row and the next; place and semaphore; semaphore and
-- length; length and the row's order
abbrev pub pairs : List Change
pairs =
    faults (write 0 9) (write 3 33) 2 0
    ∷ faults (write 3 33) (write 4 65) 3 3
    ∷ faults (write 4 65) (write 2 52) 3 4
    ∷ faults (write 2 52) (write 9 0) 4 0
    ∷ faults (write 26 0) (write 30 0) 5 23
    ∷ faults (write 30 0) (write 34 31) 5 27
    ∷ faults (write 34 31) (write 35 1) 5 31
    ∷ faults (write 35 1) (write 22 3) 5 35
    ∷ faults (write 26 0) (write 22 3) 5 23
    ∷ faults (write 5 0) (write 26 0) 6 5
    ∷ faults (write 22 3) (write 39 2) 6 22
    ∷ faults (write 44 6) (write 45 2) 7 41
    ∷ faults (write 45 2) (write 46 17) 7 45
    ∷ faults (write 46 17) (write 50 5) 7 46
    ∷ faults (write 45 0) (write 50 6) 7 47
    ∷ []

-- and in versions 2 and 3: T and C; C and D; D and the earliest delay; the earliest and the latest, both out of range; the latest and the
-- priority; place and semaphore; semaphore and length; length and the row's order; before them n and m
abbrev pub field_pairs : List Change
field_pairs =
    faults (write 30 0) (write 34 0) 5 27
    ∷ faults (write 34 0) (write 38 31) 5 31
    ∷ faults (write 38 31) (write 39 1) 5 35
    ∷ faults (write 39 1) (write 43 1) 5 39
    ∷ faults (write 43 1) (write 26 3) 5 43
    ∷ faults (write 53 2) (write 54 17) 7 53
    ∷ faults (write 54 17) (write 58 5) 7 54
    ∷ faults (write 53 0) (write 58 6) 7 55
    ∷ []

abbrev pub pairs_two : List Change
pairs_two = faults (write 3 33) (write 4 65) 3 3 ∷ field_pairs

abbrev pub pairs_three : List Change
pairs_three = faults (write 3 201) (write 4 65) 3 3 ∷ field_pairs

-- the number and the place that are told, and nothing where the table is clean
abbrev pub told : Check → List ℕ
told (Ok _) = []
told (Err refusal) = number_of refusal ∷ place_of refusal ∷ []

abbrev pub told_of : List ℕ → Change → List ℕ
told_of table c = told (table_check (changed table c.writes) 2 2)

abbrev pub wanted_of : Change → List ℕ
wanted_of c = c.number ∷ c.place ∷ []

-- both tasks of one priority
abbrev pub tied : List ℕ
tied = set right 22 2

abbrev pub tied_two : List ℕ
tied_two = set right_two 26 2

-- the deadline of the second task 120, which is four of its periods, and 121; its period 300,000 and its deadline 1,000,000, and one more
abbrev pub four_periods : List ℕ
four_periods = set right 34 120

abbrev pub longer : List ℕ
longer = set right 34 121

abbrev pub longest : List ℕ
longest = set (set (set (set (set (set right 24 4) 25 147) 26 224) 32 15) 33 66) 34 64

abbrev pub too_long : List ℕ
too_long = set longest 34 65

pub record PlacesDrawn : Type 0 where
  pub clean : table_check right 2 2 ≡ Ok tt
  pub places : map (told_of right) changes ≡ map wanted_of changes
  -- "taken as T, C, D, J, priority, and in a row place, semaphore, length, then row order": the earlier of two faults is told
  pub two_faults : map (told_of right) pairs ≡ map wanted_of pairs
  -- "Records may now repeat a priority", in every version
  pub tied_clean : table_check tied 2 2 ≡ Ok tt
  pub clean_two : table_check right_two 2 2 ≡ Ok tt
  pub places_two : map (told_of right_two) changes_two ≡ map wanted_of changes_two
  pub two_faults_two : map (told_of right_two) pairs_two ≡ map wanted_of pairs_two
  pub clean_three : table_check right_three 2 2 ≡ Ok tt
  pub places_three : map (told_of right_three) changes_three ≡ map wanted_of changes_three
  pub two_faults_three : map (told_of right_three) pairs_three ≡ map wanted_of pairs_three
  pub tied_two_clean : table_check tied_two 2 2 ≡ Ok tt
  -- a deadline past the period is refused where it may span one, and right where it may span four: up to 4 T, and to 1,000,000
  pub past_period : told (table_check four_periods 2 2) ≡ 5 ∷ 31 ∷ []
  pub spans_four : table_check_spanning 4 four_periods 2 2 ≡ Ok tt
  pub past_four : told (table_check_spanning 4 longer 2 2) ≡ 5 ∷ 31 ∷ []
  pub longest_right : table_check_spanning 4 longest 2 2 ≡ Ok tt
  pub past_longest : told (table_check_spanning 4 too_long 2 2) ≡ 5 ∷ 31 ∷ []
