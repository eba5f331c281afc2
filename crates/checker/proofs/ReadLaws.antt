-- What is known of a list's text before each read, and behind the last.
-- Assumes nothing.
use Prim.Native.Nat.{ℕ, ◌+◌, ◌-◌, ◌≤◌, ◌<◌}
use native.Mathlib.Nat.{add-zero}
use native.Mathlib.Omega.{arith}
use mathlib.Core.Path.{◌≡◌, refl, sym, ◌∙◌, ap}
use mathlib.Core.Bool.{Bool, true, false}
use mathlib.Core.List.{List, [], ◌∷◌, ◌++◌, flatten, append-nil}
use lib.ListN.{length, take, length-append}
use Rattle.io.specs.Counts.{IsPrefixLen}
use Rattle.model.specs.Choice.{pick}
use Rattle.scanning.specs.declared.Scan.{Scan}
use Rattle.scanning.specs.Pieces.{start, state_after, ended_in, scan_after, kept_after, stuck, More, Within, Gone, through}
use Rattle.scanning.proofs.PieceLaws.{kept_long, pieces_right}
use Rattle.checking.specs.Text.{check_text}
use Rattle.checking.specs.Pieces.{words_kept, line_after}
use Rattle.checking.proofs.ListLaws.{any_pieces}
use Rattle.std.proofs.Common.{ControlFlow, Break, Continue}
use Rattle.checker.specs.Lists.{Behind, step_for, Taken, LineOfText}

-- what stands in a step, and whether it goes on
abbrev scan_of : ControlFlow Scan Scan → Scan
scan_of (Break scan) = scan
scan_of (Continue scan) = scan

abbrev goes_on : ControlFlow Scan Scan → ℕ
goes_on (Break scan) = 0
goes_on (Continue scan) = 1

scan_on : (b : Bool) (scan : Scan) → scan_of (pick b (Break scan) (Continue scan)) ≡ scan
scan_on true scan = refl
scan_on false scan = refl

-- a read that gave nothing leaves the scan as it was
step_scan : (scan : Scan) (piece : List ℕ) → scan_of (step_for scan piece) ≡ scan_after scan piece
unfolding step_for state_after ended_in
step_scan scan [] = rw (add-zero scan.at.0, add-zero scan.count)
step_scan scan (byte ∷ rest) = scan_on (stuck (scan_after scan (byte ∷ rest)).state) (scan_after scan (byte ∷ rest))

step_some : (scan : Scan) (piece : List ℕ) → goes_on (step_for scan piece) ≡ 1 → 0 < length piece
unfolding step_for
step_some scan [] e = absurd (omega (arith, e))
step_some scan (byte ∷ rest) e = omega arith

-- what `take_in` promises
pub taken_none : {scan : Scan} {piece words : List ℕ} → length piece ≡ 0 → Taken scan piece words (Break scan) words
unfolding step_for ended_in
taken_none {scan} {piece} {words} h = go piece h
  where
    go : (piece : List ℕ) → length piece ≡ 0 → Taken scan piece words (Break scan) words
    go [] h = record { result_is = refl; words_are = refl }
    go (byte ∷ rest) h = absurd (omega (arith, h))

module _ {scan next : Scan} {piece words new : List ℕ} (m : More scan piece words next new) where
  -- behind bytes the step is told by the test
  some_step : (piece : List ℕ) → 0 < length piece →
      step_for scan piece ≡ pick (stuck (scan_after scan piece).state) (Break (scan_after scan piece)) (Continue (scan_after scan piece))
  unfolding step_for
  some_step [] h = absurd (omega (arith, h))
  some_step (byte ∷ rest) h = refl

  pub taken_some : {test : Bool} → 0 < length piece → test ≡ stuck next.state →
      Taken scan piece words (pick test (Break next) (Continue next)) new
  taken_some h e = record { result_is = rw (e, m.scan_is) (sym (some_step piece h)); words_are = m.words_are }

-- how far the scan is, is how long the text is
behind_long : {scan : Scan} {words : List ℕ} (b : Behind scan words) → scan.at.0 ≡ length b.text
unfolding through
behind_long b = omega (arith, ap (λ (g : Gone). g.scan.at.0) b.known)

pub behind_within : {scan : Scan} {words : List ℕ} → Behind scan words → Within scan 0
unfolding flatten
behind_within b =
    rw (ap (λ (g : Gone). g.scan) b.known)
    (pieces_right.fits b.old (b.text ∷ []) 0 (omega (arith, b.counted, length-append b.text [])))

pub behind_enough : {scan : Scan} {words : List ℕ} → Behind scan words → length words ≡ words_kept
unfolding through
behind_enough b = ap (λ (g : Gone). length g.words) b.known ∙ kept_long start b.text b.old ∙ b.enough

pub behind_none : {scan : Scan} {words : List ℕ} → scan ≡ start → length words ≡ words_kept → Behind scan words
unfolding flatten through
behind_none {scan} {words} e h =
    rw e (record { text = []; old = words; enough = h; counted = omega arith; known = pieces_right.joins words [] })

-- one piece more
behind_more : {scan : Scan} {words : List ℕ} → Behind scan words → (piece : List ℕ) → scan.at.0 + length piece < 18446744073709551616 →
    {next : Scan} {new : List ℕ} → next ≡ scan_after scan piece → new ≡ kept_after scan piece words → Behind next new
unfolding through flatten
behind_more b piece fits e k =
    record {
      text = flatten (b.text ∷ piece ∷ []);
      old = b.old;
      enough = b.enough;
      counted = omega (arith, fits, behind_long b, length-append b.text (piece ++ []), length-append piece []);
      known =
          rw (e, k)
          (ap (λ (g : Gone). through g (piece ∷ [])) b.known ∙ pieces_right.joins b.old (b.text ∷ piece ∷ []));
    }

pub line_of_text : LineOfText
unfolding flatten
line_of_text =
    record {
      line = λ scan words bytes b.
          ap (λ (g : Gone). line_after g bytes) b.known
          ∙ any_pieces.whole b.old bytes (b.text ∷ []) b.enough
          ∙ ap (λ (text : List ℕ). check_text text bytes) (append-nil b.text);
    }

-- Before each read: at most one went past the last place that is counted.
pub record Sofar (words piece : List ℕ) (scan : Scan) : Type 0 where
  pub behind : Behind scan words
  pub most : scan.at.0 < 9223372036854841344
  pub room : length piece ≡ 65536

pub sofar_none : {words piece : List ℕ} {scan : Scan} → scan ≡ start → length words ≡ words_kept → length piece ≡ 65536 → Sofar words piece scan
sofar_none e h k = record { behind = behind_none e h; most = rw e (omega arith); room = k }

module _ {words piece : List ℕ} {scan : Scan} (s : Sofar words piece scan) (low : scan.at.0 < 9223372036854775808) where
  -- a read fills the beginning of the buffer
  module _ (filled : List ℕ) (taken : ℕ) (same : length filled ≡ length piece) (counts : IsPrefixLen taken filled) where
    few : length (take taken filled) ≤ 65536
    few = omega (arith, counts.0, counts.1, same, s.room)

    pub sofar_fits : Within scan (length (take taken filled))
    sofar_fits =
        let w = behind_within s.behind in record { few = w.few; placed = w.placed; most = omega (arith, low, few) }

    module _ {new : List ℕ} {result : ControlFlow Scan Scan} (t : Taken scan (take taken filled) words result new) where
      told : {next : Scan} → scan_of result ≡ next → next ≡ scan_after scan (take taken filled)
      told e = sym e ∙ ap scan_of t.result_is ∙ step_scan scan (take taken filled)

      behind_told : {next : Scan} → scan_of result ≡ next → Behind next new
      behind_told e = behind_more s.behind (take taken filled) (omega (arith, low, few)) (told e) t.words_are

      pub sofar_last : {last : Scan} → result ≡ Break last → Behind last new
      sofar_last e = behind_told (ap scan_of e)

      pub sofar_more : {next : Scan} → result ≡ Continue next → Sofar new filled next
      sofar_more e =
          record {
            behind = behind_told (ap scan_of e);
            most = rw (told (ap scan_of e)) (omega (arith, low, few));
            room = same ∙ s.room;
          }

      pub sofar_less : {next : Scan} → result ≡ Continue next →
          9223372036854775808 - next.at.0 < 9223372036854775808 - scan.at.0
      sofar_less e =
          let some = step_some scan (take taken filled) (ap goes_on (sym t.result_is ∙ e)) in
          rw (told (ap scan_of e)) (omega (arith, low, some))
