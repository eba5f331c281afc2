-- What is known before each read.
-- Assumes nothing.
use Prim.Native.Nat.{ℕ, ◌+◌, ◌≤◌, ◌<◌}
use native.Mathlib.Omega.{arith}
use mathlib.Core.Path.{◌≡◌, refl, sym, ◌∙◌, subst}
use mathlib.Core.List.{List, [], ◌++◌}
use lib.ListN.{length, take, length-append}
use Rattle.io.specs.Counts.{IsPrefixLen}
use Rattle.reporting.specs.declared.Report.{Report}
use Rattle.reporting.specs.declared.Told.{Told}
use Rattle.reporting.specs.Streaming.{begun, store_size, Behind, GoesOn, Countable, lines_room}
use Rattle.reporting.proofs.StreamLaws.{behind_none}
use Rattle.report.specs.Input.{BehindRead}

-- The loop of `report_all`: so many bytes are read.
pub record Sofar (store₀ store piece out : List ℕ) (report : Report) (total : ℕ) : Type 0 where
  pub bytes : List ℕ
  pub long : length bytes ≡ total
  pub behind : Behind store₀ bytes report store
  pub most : total < 9223372036854775808 + 4097
  pub piece_long : length piece ≡ 4096
  pub out_long : length out ≡ 65536
  pub store_long : length store ≡ length store₀

pub sofar_none : {store piece out : List ℕ} {report : Report} → report ≡ begun → length store ≡ store_size → length piece ≡ 4096 → length out ≡ 65536 →
    Sofar store store piece out report 0
sofar_none {store} e room p o =
    record {
      bytes = [];
      long = refl;
      behind = subst (λ (r : Report). Behind store [] r store) (sym e) (behind_none store room);
      most = omega arith;
      piece_long = p;
      out_long = o;
      store_long = refl;
    }

module _ {store₀ store piece out : List ℕ} {report : Report} {total : ℕ} (s : Sofar store₀ store piece out report total) where
  pub sofar_read : BehindRead report total store
  sofar_read = record { old = store₀; bytes = s.bytes; long = s.long; behind = s.behind }

  module _ (got : List ℕ) (taken : ℕ) (room : length got ≡ 4096) (counts : IsPrefixLen taken got) where
    pub sofar_countable : Countable report store (length (take taken got))
    sofar_countable =
        record {
          old = store₀;
          bytes = s.bytes;
          behind = s.behind;
          few = omega (arith, s.long, s.most, counts.1, counts.0, room);
        }

    pub sofar_room : lines_room (length (take taken got)) ≤ length out
    sofar_room = omega (arith, s.out_long, counts.1, counts.0, room)

    pub sofar_more : total < 9223372036854775808 → {told : Told} {kept written buffer : List ℕ} →
        GoesOn report store (take taken got) buffer 0 told kept written → length kept ≡ length store → length written ≡ 65536 →
        Sofar store₀ kept got written told.report (total + taken)
    sofar_more h {told} {kept} {written} {buffer} g k o =
        record {
          bytes = s.bytes ++ take taken got;
          long = omega (arith, length-append s.bytes (take taken got), s.long, counts.1);
          behind = g.behind store₀ s.bytes s.behind;
          most = omega (arith, h, counts.0, room);
          piece_long = room;
          out_long = o;
          store_long = k ∙ s.store_long;
        }
