-- Being told of more bytes: what is kept behind them, and the lines of the tables that end in them.
-- Assumes nothing.
use Prim.Native.Nat.{ℕ, suc, ◌+◌, ◌≤◌, ◌<◌}
use native.Mathlib.Omega.{arith}
use native.Mathlib.Nat.{add-zero, sub-zero}
use mathlib.Core.Path.{◌≡◌, refl, sym, ◌∙◌, ap, subst}
use mathlib.Core.List.{List, [], ◌∷◌, ◌++◌, append_assoc, append-nil}
use lib.ListN.{length, take, get_or, length-append}
use lib.Seq.{get_or-take}
use Rattle.model.specs.Lists.{sum_of}
use Rattle.model.proofs.Lists.{sum_append}
use Rattle.tables.specs.Layout.{stated_length}
use Rattle.printing.specs.Appended.{Appended, bytes_after}
use Rattle.printing.proofs.AppendLaws as append_laws
use Rattle.printing.proofs.AppendLaws.{then, nothing, as_text, text_is_law}
use Rattle.report_lines.specs.Line.{judged_as, line_of}
use Rattle.reporting.specs.declared.Report.{Report}
use Rattle.reporting.specs.declared.Told.{Told}
use Rattle.reporting.specs.Cutting.{tables_from, left_from, tables_in, left_in, Begins, Stated}
use Rattle.reporting.specs.Report.{lines_from, is_schedulable, is_late, is_refused, schedulable_in, late_in, refused_in}
use Rattle.reporting.specs.Streaming.{begun, gathered_to, due_of, store_after, store_size, Behind, lines_more, GoesOn, counted_by, counted_in}
use Rattle.reporting.proofs.CuttingLaws.{is_cut, tables_more, left_more, none_whole, one_whole}
use Rattle.reporting.proofs.CutLaws.{cut_verdict, cut_line}
use Rattle.reporting.proofs.CountLaws.{counts_add_up}
use Rattle.reporting.proofs.DueLaws.{pending, head_come, ended, headed}

-- the store keeps its length, and holds the last table
store_long : (old : List ℕ) (tables : List (List ℕ)) → length (store_after old tables) ≡ length old
unfolding store_after
store_long old [] = refl
store_long old (table ∷ tables) =
    store_long (bytes_after old 0 table) tables
    ∙ append_laws.long {old = old} {more = table} {at = 0} record { end_is = refl; new_is = refl }

store_more : (old : List ℕ) (tables : List (List ℕ)) (table : List ℕ) →
    store_after old (tables ++ (table ∷ [])) ≡ bytes_after (store_after old tables) 0 table
unfolding store_after
store_more old [] table = refl
store_more old (first ∷ tables) table = store_more (bytes_after old 0 first) tables table

pub lines_both : (number : ℕ) (xs ys : List (List ℕ)) → lines_from number (xs ++ ys) ≡ lines_from number xs ++ lines_from (number + length xs) ys
unfolding lines_from
lines_both number [] ys = ap (λ (n : ℕ). lines_from n ys) (sym (add-zero number))
lines_both number (x ∷ xs) ys =
    let e : suc number + length xs ≡ number + suc (length xs) = omega arith in
    ap (λ (text : List ℕ). line_of number x ++ text)
    (lines_both (suc number) xs ys ∙ ap (λ (n : ℕ). lines_from (suc number) xs ++ lines_from n ys) e)
    ∙ sym (append_assoc (line_of number x) (lines_from (suc number) xs) (lines_from (number + suc (length xs)) ys))

pub behind_none : (old : List ℕ) → length old ≡ store_size → Behind old [] begun old
unfolding tables_from left_from store_after sum_of
behind_none old h =
    record {
      schedulable = refl;
      late = refl;
      refused = refl;
      come = refl;
      due = refl;
      stored = nothing old 0;
      room = h;
    }

-- as many tables are counted as have come whole
pub counted_tables : {old bytes store : List ℕ} {report : Report} → Behind old bytes report store → counted_in report ≡ length (tables_in bytes)
counted_tables {bytes = bytes} b = omega (arith, b.schedulable, b.late, b.refused, counts_add_up (tables_in bytes))

sum_more : (f : List ℕ → ℕ) (tables : List (List ℕ)) (table : List ℕ) (count : ℕ) → count ≡ sum_of f tables →
    count + f table ≡ sum_of f (tables ++ (table ∷ []))
unfolding sum_of
sum_more f tables table count e = omega (arith, e, sum_append f tables (table ∷ []))

module _ {old bytes store : List ℕ} {report : Report} (b : Behind old bytes report store) (more : List ℕ) where
  not_begun : ¬ Begins (left_in bytes)
  not_begun = (is_cut bytes).closed

  room_long : length (store_after old (tables_in bytes)) ≡ 4589
  room_long = store_long old (tables_in bytes) ∙ b.room

  module _ {kept : ℕ} {new : List ℕ} (a : Appended store report.kept more kept new) where
    grown : Appended (store_after old (tables_in bytes)) 0 (left_in bytes ++ more) kept new
    grown = then b.stored a

    pub new_long : length new ≡ 4589
    new_long = append_laws.long grown ∙ room_long

    -- the part of the store that is kept
    pub kept_part : take kept new ≡ take 4589 (left_in bytes ++ more)
    kept_part =
        text_is_law grown (omega arith)
        ∙ ap (λ (n : ℕ). take n (left_in bytes ++ more)) (sub-zero (length (store_after old (tables_in bytes))) ∙ room_long)

    kept_byte : 5 ≤ length (left_in bytes ++ more) → (i : ℕ) → i < 5 → get_or new i 0 ≡ get_or (left_in bytes ++ more) i 0
    kept_byte h i k =
        sym (get_or-take kept new i 0 (omega (arith, grown.end_is, room_long, h, k)))
        ∙ ap (λ (xs : List ℕ). get_or xs i 0) kept_part
        ∙ get_or-take 4589 (left_in bytes ++ more) i 0 (omega (arith, k))

    pub stated_kept : 5 ≤ length (left_in bytes ++ more) → stated_length new ≡ stated_length (left_in bytes ++ more)
    stated_kept h = rw (kept_byte h 1 (omega arith), kept_byte h 2 (omega arith)) refl

    -- no table has ended: all that has come is of the table at hand
    behind_longer : (come due : ℕ) → come ≡ report.come + length more → ¬ Begins (left_in bytes ++ more) → due ≡ due_of (left_in bytes ++ more) →
        Behind old (bytes ++ more) (gathered_to report come due kept) new
    behind_longer come due c n d =
        let none = none_whole (left_in bytes ++ more) n in
        let same : tables_in (bytes ++ more) ≡ tables_in bytes =
        tables_more bytes more ∙ ap (λ (xs : List (List ℕ)). tables_in bytes ++ xs) none.0 ∙ append-nil (tables_in bytes) in
        let left : left_in (bytes ++ more) ≡ left_in bytes ++ more = left_more bytes more ∙ none.1 in
        record {
          schedulable = b.schedulable ∙ sym (ap (λ (xs : List (List ℕ)). schedulable_in xs) same);
          late = b.late ∙ sym (ap (λ (xs : List (List ℕ)). late_in xs) same);
          refused = b.refused ∙ sym (ap (λ (xs : List (List ℕ)). refused_in xs) same);
          come = omega (arith, c, b.come, length-append (left_in bytes) more, ap (λ (xs : List ℕ). length xs) left);
          due = d ∙ sym (ap (λ (xs : List ℕ). due_of xs) left);
          stored =
              subst (λ (xs : List ℕ). Appended (store_after old (tables_in (bytes ++ more))) 0 xs kept new) (sym left)
              (subst (λ (xs : List (List ℕ)). Appended (store_after old xs) 0 (left_in bytes ++ more) kept new) (sym same) grown);
          room = b.room;
        }

    -- one table has ended, and nothing of the next has come
    behind_ended : Stated (left_in bytes ++ more) → Behind old (bytes ++ more) (counted_by report (judged_as (left_in bytes ++ more))) new
    behind_ended s =
        let one = one_whole (left_in bytes ++ more) s in
        let tables : tables_in (bytes ++ more) ≡ tables_in bytes ++ ((left_in bytes ++ more) ∷ []) =
        tables_more bytes more ∙ ap (λ (xs : List (List ℕ)). tables_in bytes ++ xs) one.0 in
        let left : left_in (bytes ++ more) ≡ [] = left_more bytes more ∙ one.1 in
        let held : new ≡ store_after old (tables_in (bytes ++ more)) =
        grown.new_is ∙ sym (store_more old (tables_in bytes) (left_in bytes ++ more)) ∙ sym (ap (store_after old) tables) in
        record {
          schedulable = sum_more is_schedulable (tables_in bytes) (left_in bytes ++ more) report.schedulable b.schedulable ∙ sym (ap (sum_of is_schedulable) tables);
          late = sum_more is_late (tables_in bytes) (left_in bytes ++ more) report.late b.late ∙ sym (ap (sum_of is_late) tables);
          refused = sum_more is_refused (tables_in bytes) (left_in bytes ++ more) report.refused b.refused ∙ sym (ap (sum_of is_refused) tables);
          come = sym (ap (λ (xs : List ℕ). length xs) left);
          due = sym (ap (λ (xs : List ℕ). due_of xs) left);
          stored =
              subst (λ (xs : List ℕ). Appended (store_after old (tables_in (bytes ++ more))) 0 xs 0 new) (sym left)
              (subst (λ (xs : List ℕ). Appended xs 0 [] 0 new) held (nothing new 0));
          room = b.room;
        }

  -- the lines in either case
  lines_none : ¬ Begins (left_in bytes ++ more) → lines_more bytes more ≡ []
  unfolding lines_from
  lines_none n = ap (lines_from (length (tables_in bytes))) (none_whole (left_in bytes ++ more) n).0

  lines_one : Stated (left_in bytes ++ more) → line_of (length (tables_in bytes)) (left_in bytes ++ more) ≡ lines_more bytes more
  unfolding lines_from
  lines_one s =
      sym
      (ap (lines_from (length (tables_in bytes))) (one_whole (left_in bytes ++ more) s).0
      ∙ append-nil (line_of (length (tables_in bytes)) (left_in bytes ++ more)))

-- `take_in`, in its three cases. What has come is not more than is due, where the report is not closed.
module _ (report : Report) {store more : List ℕ} {kept : ℕ} {new : List ℕ} (a : Appended store report.kept more kept new)
    (fits : report.come < report.due → report.come + length more ≤ report.due) where
  fits_left : {old bytes : List ℕ} → Behind old bytes report store →
      length (left_in bytes) < due_of (left_in bytes) → length (left_in bytes) + length more ≤ due_of (left_in bytes)
  fits_left b h = omega (arith, b.come, b.due, fits (omega (arith, h, b.come, b.due)))

  pub goes_pending : {out : List ℕ} {at : ℕ} {longer : Report} → longer ≡ gathered_to report (report.come + length more) report.due kept → (report.come + length more ≡ report.due → ⊥) →
      GoesOn report store more out at (record { report = longer; end = at }) new out
  goes_pending {out} {at} {longer} l h =
      record {
        behind = λ old bytes b.
            let p = still bytes b in
            subst (λ (x : Report). Behind old (bytes ++ more) x new) (sym l)
            (behind_longer b more a (report.come + length more) report.due refl p.0 (b.due ∙ p.1));
        lines = λ old bytes b. as_text (nothing out at) (sym (lines_none b more (still bytes b).0));
      }
    where
      still : {old : List ℕ} (bytes : List ℕ) → Behind old bytes report store →
          (¬ Begins (left_in bytes ++ more)) × (due_of (left_in bytes) ≡ due_of (left_in bytes ++ more))
      still bytes b =
          pending (left_in bytes) more (not_begun b more) (fits_left b) (λ e. h (omega (arith, e, b.come, b.due)))

  module _ (e : report.come + length more ≡ report.due) where
    all_come : {old bytes : List ℕ} → Behind old bytes report store → length (left_in bytes) + length more ≡ due_of (left_in bytes)
    all_come b = omega (arith, e, b.come, b.due)

    pub come_head : {old bytes : List ℕ} → Behind old bytes report store → 5 ≤ length (left_in bytes ++ more)
    come_head {bytes = bytes} b = head_come (left_in bytes) more (not_begun b more) (fits_left b) (all_come b)

    pub goes_headed : {out : List ℕ} {at stated : ℕ} {longer : Report} → longer ≡ gathered_to report (report.come + length more) stated kept → stated ≡ stated_length new → (stated ≡ report.come + length more → ⊥) →
        GoesOn report store more out at (record { report = longer; end = at }) new out
    goes_headed {out} {at} {stated} {longer} l s h =
        record {
          behind = λ old bytes b.
              let p = other bytes b in
              subst (λ (x : Report). Behind old (bytes ++ more) x new) (sym l)
              (behind_longer b more a (report.come + length more) stated refl p.0 (s ∙ stated_kept b more a (come_head b) ∙ p.1));
          lines = λ old bytes b. as_text (nothing out at) (sym (lines_none b more (other bytes b).0));
        }
      where
        other : {old : List ℕ} (bytes : List ℕ) → Behind old bytes report store →
            (¬ Begins (left_in bytes ++ more)) × (stated_length (left_in bytes ++ more) ≡ due_of (left_in bytes ++ more))
        other bytes b =
            headed (left_in bytes) more (not_begun b more) (fits_left b) (all_come b)
            (λ x. h (omega (arith, x, s, stated_kept b more a (come_head b), b.come)))

    pub goes_ended : {out written : List ℕ} {at stated : ℕ} {told : Told} → stated ≡ stated_length new → stated ≡ report.come + length more →
        told.report ≡ counted_by report (judged_as (take kept new)) →
        Appended out at (line_of (counted_in report) (take kept new)) told.end written →
        GoesOn report store more out at told new written
    goes_ended {out} {written} {at} {stated} {told} s h r l =
        record {
          behind = λ old bytes b.
              subst (λ (x : Report). Behind old (bytes ++ more) x new)
              (sym
              (r
              ∙ ap (λ (xs : List ℕ). counted_by report (judged_as xs)) (kept_part b more a)
              ∙ ap (counted_by report) (cut_verdict (left_in bytes ++ more) (whole bytes b))))
              (behind_ended b more a (whole bytes b));
          lines = λ old bytes b.
              as_text l
              (ap (line_of (counted_in report)) (kept_part b more a)
              ∙ cut_line (counted_in report) (left_in bytes ++ more) (whole bytes b)
              ∙ ap (λ (n : ℕ). line_of n (left_in bytes ++ more)) (counted_tables b)
              ∙ lines_one b more (whole bytes b));
        }
      where
        whole : {old : List ℕ} (bytes : List ℕ) → Behind old bytes report store → Stated (left_in bytes ++ more)
        whole bytes b =
            ended (left_in bytes) more (not_begun b more) (fits_left b) (all_come b)
            (omega (arith, s, stated_kept b more a (come_head b), h, b.come))

-- `go_on`: nothing more, and one after the other
pub lines_then : (bytes first second : List ℕ) →
    lines_more bytes first ++ lines_more (bytes ++ first) second ≡ lines_more bytes (first ++ second)
lines_then bytes first second =
    let left = left_in bytes in
    let n = length (tables_in bytes) in
    let count : length (tables_in (bytes ++ first)) ≡ n + length (tables_in (left ++ first)) =
    ap (λ (xs : List (List ℕ)). length xs) (tables_more bytes first) ∙ length-append (tables_in bytes) (tables_in (left ++ first)) in
    ap (λ (k : ℕ). lines_from n (tables_in (left ++ first)) ++ lines_from k (tables_in (left_in (bytes ++ first) ++ second))) count
    ∙ ap (λ (xs : List ℕ). lines_from n (tables_in (left ++ first)) ++ lines_from (n + length (tables_in (left ++ first))) (tables_in (xs ++ second)))
    (left_more bytes first)
    ∙ sym (lines_both n (tables_in (left ++ first)) (tables_in (left_in (left ++ first) ++ second)))
    ∙ sym (ap (lines_from n) (tables_more (left ++ first) second))
    ∙ ap (λ (xs : List ℕ). lines_from n (tables_in xs)) (append_assoc left first second)

pub goes_none : (report : Report) (store out : List ℕ) (at : ℕ) → GoesOn report store [] out at (record { report = report; end = at }) store out
goes_none report store out at =
    record {
      behind = λ old bytes b. subst (λ (xs : List ℕ). Behind old xs report store) (sym (append-nil bytes)) b;
      lines = λ old bytes b.
          as_text (nothing out at)
          (sym (lines_none b [] (subst (λ (xs : List ℕ). ¬ Begins xs) (sym (append-nil (left_in bytes))) (is_cut bytes).closed)));
    }

pub goes_then : {report : Report} {store middle kept first out between written : List ℕ} {at : ℕ} {told last : Told} (second : List ℕ) →
    GoesOn report store first out at told middle between → GoesOn told.report middle second between told.end last kept written →
    GoesOn report store (first ++ second) out at last kept written
goes_then {report} {store} {middle} {kept} {first} {out} {between} {written} {at} {told} {last} second g k =
    record {
      behind = λ old bytes b.
          subst (λ (xs : List ℕ). Behind old xs last.report kept) (append_assoc bytes first second)
          (k.behind old (bytes ++ first) (g.behind old bytes b));
      lines = λ old bytes b.
          as_text (then (g.lines old bytes b) (k.lines old (bytes ++ first) (g.behind old bytes b))) (lines_then bytes first second);
    }
