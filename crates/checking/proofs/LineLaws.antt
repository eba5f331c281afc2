-- How long a line is.
-- Assumes nothing.
use Prim.Native.Nat.{ℕ, ◌≤◌, ◌<◌}
use native.Mathlib.Omega.{arith}
use mathlib.Core.Path.{◌≡◌, refl}
use mathlib.Core.List.{List}
use lib.ListN.{length}
use Rattle.model.specs.Search.{first_from}
use Rattle.claims.specs.declared.Claimed.{Claimed}
use Rattle.claims.specs.declared.Claimed.TheVariants.{Refused, WrongCount, Pass, Fails}
use Rattle.claims.specs.Claims.{claimed_of}
use Rattle.claims.specs.Numbers.{claimed_place}
use Rattle.claims.proofs.Claims.{claimed_place_law}
use Rattle.printing.specs.Text.{bytes_of, decimal_of}
use Rattle.printing.proofs.LengthLaws.{few_digits, line_long, place_line_long, refusal_long}
use Rattle.printing.proofs.LongestLaws.{refused_long, whole}
use Rattle.scanning.specs.Reading.{Reading, numbers, unreadable, reading_of}
use Rattle.scanning.proofs.FaultLaws.{unreadable_means}
use Rattle.scanning.specs.declared.State.{State}
use Rattle.scanning.specs.declared.State.TheVariants.{Outside, Inside, Stuck}
use Rattle.scanning.specs.declared.Scan.{Scan}
use Rattle.scanning.specs.Pieces.{behind, Within, answer_of, words_at, gone}
use Rattle.checking.specs.Text.{claimed_line, unreadable_line, text_for, check_text}
use Rattle.checking.specs.Pieces.{line_for, line_after}
use Rattle.checking.specs.Longest.{longest, LineFits, LineWhole}

claimed_long : (claimed : Claimed) → claimed_place claimed < 65536 → length (claimed_line claimed) ≤ longest
claimed_long (Refused refusal) h = omega (arith, refused_long refusal h)
claimed_long WrongCount h = omega (arith, refusal_long 10 0 2 (few_digits 10 2 (omega arith) (omega arith)) h)
claimed_long Pass h = omega arith
claimed_long (Fails place) h = omega (arith, place_line_long (bytes_of "fails ") place.0 h)

unreadable_long : (place : ℕ) → place < 18446744073709551616 → length (unreadable_line place) ≤ longest
unreadable_long place h = omega (arith, line_long (bytes_of "unreadable at ") place, few_digits place 20 (omega arith) (omega (arith, h)))

read_long : (list bytes : List ℕ) (reading : Reading) → reading_of list ≡ reading → length list < 18446744073709551616 → length (text_for reading bytes) ≤ longest
read_long list bytes (numbers claims) e h = claimed_long (claimed_of bytes claims) (claimed_place_law bytes claims (claimed_of bytes claims) refl)
read_long list bytes (unreadable place) e h = unreadable_long place (omega (arith, unreadable_means.within list place e, h))

text_long : (list bytes : List ℕ) → length list < 18446744073709551616 → length (check_text list bytes) ≤ longest
unfolding check_text
text_long list bytes h = read_long list bytes (reading_of list) refl h

pub line_fits : LineFits
unfolding decimal_of first_from
line_fits = record { fits = text_long; reached = refl }

-- the same of what is known behind the last piece
answer_long : (state : State) (count : ℕ) (words bytes : List ℕ) → behind state < 18446744073709551616 →
    length (line_for (answer_of state count) words bytes) ≤ longest
answer_long Outside count words bytes h = claimed_long (claimed_of bytes _) (claimed_place_law bytes _ (claimed_of bytes _) refl)
answer_long (Inside from value) count words bytes h = claimed_long (claimed_of bytes _) (claimed_place_law bytes _ (claimed_of bytes _) refl)
answer_long (Stuck place) count words bytes h = unreadable_long place.0 h

line_after_long : (scan : Scan) (words bytes : List ℕ) → Within scan 0 → length (line_after (gone scan words) bytes) ≤ longest
unfolding line_after
line_after_long scan words bytes w = answer_long scan.state _ (words_at scan words) bytes (omega (arith, w.placed, w.most))

pub line_whole : LineWhole
line_whole scan words bytes old end new w room a =
    whole old (line_after (gone scan words) bytes) end new (omega (arith, line_after_long scan words bytes w, room)) a
