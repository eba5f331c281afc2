-- The bytes of one record and one row, one after the other.
-- Assumes nothing.
use Prim.Native.Nat.{ℕ, zero, suc, ◌+◌, ◌-◌, ◌*◌, ◌/◌, ◌%◌, ◌≤◌, ◌<◌}
use native.Mathlib.Nat.{add-zero, mul-zero, mul-suc, mul-le-mul}
use native.Mathlib.Omega.{arith}
use mathlib.Core.Path.{◌≡◌, refl, ◌∙◌, ap}
use mathlib.Core.List.{List, [], ◌∷◌, ◌++◌}
use mathlib.Core.Logic.{inl, inr}
use lib.Dec.{eqb}
use Rattle.std.specs.Int.{to_be_bytes, w32}
use Rattle.std.specs.Simd.{first_chunks}
use lib.ListN.{length, get_or, take, drop, length-drop}
use lib.Seq.{take_all}
use Rattle.std.proofs.lemmas.List.{get_or-take, get_or-drop, drop-drop}
use Rattle.model.specs.Lists.{tabulate}
use Rattle.model.proofs.Lists.{length_tabulate}
use Rattle.model.proofs.Tests.{bool?}
use Rattle.tables.specs.declared.layout.Layout.{Layout}
use Rattle.tables.specs.Layout.{layout_for}
use Rattle.tables.specs.declared.layout.DelayFields.{DelayFields}
use Rattle.tables.specs.declared.layout.DelayFields.TheVariants.{Jitter, Pair}
use Rattle.encoding.specs.Bytes.{four_bytes, record_bytes, row_bytes, joined}
use Rattle.typing.specs.declared.lines.Counts.{Counts}
use Rattle.typing.specs.Kept.{number_at}
use Rattle.typed.specs.Bytes.{low_task_at, low_row_at, low_task, low_row, delays_of, head_kept, version_kept, bytes_kept}

-- the library's bytes of a number
pub word_bytes : (n : ℕ) → n < 4294967296 → to_be_bytes w32 n ≡ four_bytes n
word_bytes n h =
    let top : n / 16777216 % 256 ≡ n / 16777216 = omega (arith, h) in
    ap (λ (byte : ℕ). byte ∷ n / 65536 % 256 ∷ n / 256 % 256 ∷ n % 256 ∷ []) top

-- a record's numbers, as the code puts them one behind another
abbrev pub record_in : DelayFields → (priority period cost deadline earliest latest : ℕ) → List ℕ
record_in delays priority period cost deadline earliest latest =
    ((((priority % 256 ∷ []) ++ four_bytes period) ++ four_bytes cost) ++ four_bytes deadline) ++ delays_of delays earliest latest

pub record_is : (delays : DelayFields) (numbers : List ℕ) (from : ℕ) →
    record_in delays (number_at numbers from) (number_at numbers (from + 1)) (number_at numbers (from + 2)) (number_at numbers (from + 3)) (number_at numbers (from + 4)) (number_at numbers (from + 5))
    ≡ record_bytes delays (low_task_at numbers from)
unfolding low_task_at
record_is Jitter numbers from = refl
record_is Pair numbers from = refl

pub row_is : (numbers : List ℕ) (from : ℕ) →
    ((number_at numbers from % 256 ∷ []) ++ (number_at numbers (from + 1) % 256 ∷ [])) ++ four_bytes (number_at numbers (from + 2)) ≡ row_bytes (low_row_at numbers from)
unfolding low_row_at
row_is numbers from = refl

-- no table that can be typed has more bytes
pub whole_small : (size tasks sections : ℕ) → (size ≤ 21) × (tasks ≤ 200) × (sections ≤ 64) →
    (size * tasks ≤ 4200) × (5 + size * tasks + 6 * sections ≤ 4589)
whole_small size tasks sections h =
    let product : size * tasks ≤ 21 * 200 = mul-le-mul h.0 h.1 in
    (omega (arith, product), omega (arith, product, h.2))

-- no record is longer
pub size_small : (version : ℕ) {layout : Layout} → layout ≡ layout_for version → layout.size ≤ 21
unfolding layout_for
size_small version e =
    rw e
    (elim (bool? (eqb version 1)) [
      | inl p ↦ rw p (omega arith)
      | inr p ↦
          elim (bool? (eqb version 2)) [
            | inl q ↦ rw (p, q) (omega arith)
            | inr q ↦ elim (bool? (eqb version 3)) [ inl r ↦ rw (p, q, r) (omega arith) | inr r ↦ rw (p, q, r) (omega arith) ]
          ]
    ])

-- head, records and rows are the bytes of the table
pub bytes_are : (counts : Counts) (numbers : List ℕ) {version : ℕ} {layout : Layout} → version ≡ version_kept counts (number_at numbers 0) →
    layout ≡ layout_for version →
    (head_kept version layout.size counts.tasks counts.sections ++ joined (record_bytes layout.delays) (tabulate (low_task numbers) counts.tasks))
    ++ joined row_bytes (tabulate (low_row numbers) counts.sections)
    ≡ bytes_kept counts numbers
unfolding bytes_kept
bytes_are counts numbers {version} {layout} v l =
    rw (l, v, length_tabulate (low_task numbers) counts.tasks, length_tabulate (low_row numbers) counts.sections) refl

-- the numbers of a task and of a section, cut out of the slice
chunk_at : (n k i : ℕ) (xs : List ℕ) → i < k → get_or (first_chunks n k xs) i [] ≡ take n (drop (n * i) xs)
chunk_at n zero i xs h = absurd (omega (arith, h))
chunk_at n (suc k) zero xs h = rw (mul-zero n)
chunk_at n (suc k) (suc i) xs h =
    chunk_at n k i (drop n xs) (omega arith)
    ∙ ap (take n) (drop-drop (n * i) n xs ∙ ap (λ (m : ℕ). drop m xs) (omega (arith, mul-suc n i)))

cut_at : (n from i : ℕ) (xs : List ℕ) → i < n → get_or (take n (drop from xs)) i 0 ≡ get_or xs (from + i) 0
cut_at n from i xs h = get_or-take n (drop from xs) i 0 h ∙ get_or-drop from xs i 0

task_cut : (numbers : List ℕ) (from : ℕ) → low_task_at (take 6 (drop from numbers)) 0 ≡ low_task_at numbers from
unfolding low_task_at
task_cut numbers from =
    rw (
      cut_at 6 from 0 numbers (omega arith),
      cut_at 6 from 1 numbers (omega arith),
      cut_at 6 from 2 numbers (omega arith),
      cut_at 6 from 3 numbers (omega arith),
      cut_at 6 from 4 numbers (omega arith),
      cut_at 6 from 5 numbers (omega arith),
      add-zero from,
    )

row_cut : (numbers : List ℕ) (from : ℕ) → low_row_at (take 3 (drop from numbers)) 0 ≡ low_row_at numbers from
unfolding low_row_at
row_cut numbers from =
    rw (
      cut_at 3 from 0 numbers (omega arith),
      cut_at 3 from 1 numbers (omega arith),
      cut_at 3 from 2 numbers (omega arith),
      add-zero from,
    )

abbrev pub from_on : ℕ → List ℕ → List ℕ
from_on first numbers = take (length numbers - first) (drop first numbers)

from_on_is : (first : ℕ) (numbers : List ℕ) → from_on first numbers ≡ drop first numbers
from_on_is first numbers = take_all (length numbers - first) (drop first numbers) (omega (arith, length-drop first numbers))

-- the chunk of a place, of those that count
chunk_is : (n first count i : ℕ) (numbers : List ℕ) {chunks : List (List ℕ)} →
    chunks ≡ first_chunks n (length (from_on first numbers) / n) (from_on first numbers) → i < length (drop first numbers) / n → i < count →
    get_or (take count chunks) i [] ≡ take n (drop (first + n * i) numbers)
chunk_is n first count i numbers {chunks} e h k =
    get_or-take count chunks i [] k
    ∙ ap (λ (all : List (List ℕ)). get_or all i []) (e ∙ ap (λ (xs : List ℕ). first_chunks n (length xs / n) xs) (from_on_is first numbers))
    ∙ chunk_at n (length (drop first numbers) / n) i (drop first numbers) h
    ∙ ap (take n) (drop-drop (n * i) first numbers)

pub task_chunk : (count i : ℕ) (numbers : List ℕ) {chunks : List (List ℕ)} →
    chunks ≡ first_chunks 6 (length (from_on 193 numbers) / 6) (from_on 193 numbers) → length numbers ≡ 1393 → count ≤ 200 → i < count →
    low_task_at (get_or (take count chunks) i []) 0 ≡ low_task numbers i
task_chunk count i numbers e long few h =
    ap (λ (fields : List ℕ). low_task_at fields 0) (chunk_is 6 193 count i numbers e (omega (arith, length-drop 193 numbers, long, few, h)) h)
    ∙ task_cut numbers (193 + 6 * i)

pub row_chunk : (count i : ℕ) (numbers : List ℕ) {chunks : List (List ℕ)} →
    chunks ≡ first_chunks 3 (length (from_on 1 numbers) / 3) (from_on 1 numbers) → length numbers ≡ 1393 → count ≤ 64 → i < count →
    low_row_at (get_or (take count chunks) i []) 0 ≡ low_row numbers i
row_chunk count i numbers e long few h =
    ap (λ (fields : List ℕ). low_row_at fields 0) (chunk_is 3 1 count i numbers e (omega (arith, length-drop 1 numbers, long, few, h)) h)
    ∙ row_cut numbers (1 + 3 * i)
