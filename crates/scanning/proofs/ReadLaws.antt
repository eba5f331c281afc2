-- From two passes through a text to what reading it answers and leaves.
-- Assumes nothing.
use Prim.Native.Nat.{ℕ}
use native.Mathlib.Omega.{arith}
use mathlib.Core.Path.{◌≡◌, refl, sym, ◌∙◌, ap}
use mathlib.Core.List.{List}
use Rattle.std.specs.Prelude.{Result, Ok, Err}
use Rattle.scanning.specs.declared.Unreadable.{Unreadable}
use Rattle.scanning.specs.declared.Scan.{Scan}
use Rattle.scanning.specs.Reading.{Reading, numbers, unreadable, reading_of}
use Rattle.scanning.specs.Read.{scanned_for, words_after, Read, NoSecondRead}
use Rattle.scanning.specs.Pieces.{start, scan_after, kept_after, More, answer_at, words_at, Ended, Passed}
use Rattle.scanning.proofs.PieceLaws.{answer_all, keep_all}

pub no_second_read : NoSecondRead
no_second_read text old result other new another a b = (a.result_is ∙ sym b.result_is, a.words_are ∙ sym b.words_are)

pub passed : {text old kept new : List ℕ} {first scan : Scan} {result : Result ℕ Unreadable} → first ≡ start → More first text old scan kept →
    Ended scan kept result new → Passed text old result new
passed {text} {old} {kept} {new} {first} {scan} e m f =
    let here : scan ≡ scan_after start text = m.scan_is ∙ ap (λ (s : Scan). scan_after s text) e in
    record {
      result_is = f.result_is ∙ ap answer_at here;
      words_are =
          f.words_are
          ∙ ap (λ (s : Scan). words_at s kept) here
          ∙ ap (words_at (scan_after start text)) (m.words_are ∙ ap (λ (s : Scan). kept_after s text old) e);
    }

pass_result : {text old new : List ℕ} {result : Result ℕ Unreadable} → Passed text old result new → result ≡ scanned_for (reading_of text)
pass_result {text} p = p.result_is ∙ answer_all text

-- the first pass tells a text that can't be read
unchanged : (reading : Reading) (fault : Unreadable) (old : List ℕ) → Err fault ≡ scanned_for reading → old ≡ words_after reading old
unchanged (numbers values) fault old e = let z : ◌≡◌ {A = ℕ} 0 1 = cc in absurd (omega arith)
unchanged (unreadable at) fault old e = refl

pub read_fault : {text none left old : List ℕ} {result : Result ℕ Unreadable} {fault : Unreadable} → Passed text none result left →
    result ≡ Err fault → Read text old (Err fault) old
read_fault {text} {none} {left} {old} {result} {fault} p e =
    record {
      result_is = sym e ∙ pass_result p;
      words_are = unchanged (reading_of text) fault old (sym e ∙ pass_result p);
    }

-- and after one that can be read the second pass leaves its numbers
filled : (reading : Reading) (count : ℕ) (old new : List ℕ) → Ok count ≡ scanned_for reading →
    ((values : List ℕ) → reading ≡ numbers values → new ≡ words_after (numbers values) old) → new ≡ words_after reading old
filled (numbers values) count old new e f = f values refl
filled (unreadable at) count old new e f = let z : ◌≡◌ {A = ℕ} 0 1 = cc in absurd (omega arith)

pub read_all : {text none left old new : List ℕ} {first second : Result ℕ Unreadable} {count : ℕ} → Passed text none first left →
    first ≡ Ok count → Passed text old second new → Read text old second new
read_all {text} {none} {left} {old} {new} {first} {second} {count} p e q =
    record {
      result_is = pass_result q;
      words_are = filled (reading_of text) count old new (sym e ∙ pass_result p) (λ values r. q.words_are ∙ keep_all text old values r);
    }
