-- A record's bytes, and that they stand for the record.
use Rattle.std.proofs.Common.{◌≡◌, suc, ◌+◌, ◌*◌, ◌/◌, ◌%◌, length, ap, arith}
use Rattle.pages.specs.declared.record.Record.{Record}
use Rattle.pages.specs.Log.{encoded, decoded}

-- a record is read back as it was written
pub decoded-encoded : (r : Record) → decoded (encoded r) ≡ r
decoded-encoded r =
    let e : r.page % 256 + r.page / 256 * 256 ≡ r.page = omega arith in
    ap (λ p. record { page = p; bytes = r.bytes }) e

pub length-encoded : (r : Record) → length r.bytes ≡ 64 → length (encoded r) ≡ 66
length-encoded r e = ap (λ n. suc (suc n)) e
