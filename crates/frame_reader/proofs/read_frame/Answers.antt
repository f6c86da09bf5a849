-- `frame_reader::read_frame` lists the PDUs at the places that it finds, or gives the refusal: this says what is read.
use mathlib.Core.Path.{◌≡◌, refl, sym}
use native.Mathlib.Omega.{arith}
use lib.ListN.{replicate}
use lib.Seq.{length-take-le}
use Rattle.std.specs.Prelude.{Some, None}
use Rattle.std.proofs.lemmas.Result.{err_from_is_err_and}
use Rattle.refusal.specs.declared.Refusal.TheVariants.{BadFrame}
use Rattle.frame_reader.proofs.Laws.{read_found, read_fault}
use Rattle.frame_reader.proofs.read_frame.Goals as goal

pub returns-in_err-count : goal.returns-in_err-count
returns-in_err-count c =
    let x = c.find_pdus in
    let p = err_from_is_err_and c.from_residual.result c.from_residual.ensures.1 in
    let none : x.result ≡ None = grind arith in
    let bad : c.in_err-count.field-0.0 ≡ BadFrame = grind arith in
    let m = read_fault c.args.s.now x.result x.ensures.0 none in
    rw (p.1, p.2, bad) (record { answer = m.0; count = m.1.0; pdus = m.1.1 })

pub slice_bounds-places-end : goal.slice_bounds-places-end
slice_bounds-places-end c =
    let x = c.find_pdus in
    let some : x.result ≡ Some c.in_ok-count.count = grind arith in
    omega (arith, (read_found c.args.s.now x.result x.ensures.0 _ (replicate 170 0) x.new.out refl x.ensures.1 some).0)

pub slice_bounds-listed-end : goal.slice_bounds-listed-end
slice_bounds-listed-end c =
    let x = c.find_pdus in
    let some : x.result ≡ Some c.in_ok-count.count = grind arith in
    let m = (read_found c.args.s.now x.result x.ensures.0 _ (replicate 170 0) x.new.out refl x.ensures.1 some).0 in
    sym (length-take-le c.in_ok-count.count x.new.out (omega (arith, m)))

pub returns : goal.returns
returns c =
    let x = c.find_pdus in
    let some : x.result ≡ Some c.in_ok-count.count = grind arith in
    let m = (read_found c.args.s.now x.result x.ensures.0 _ (replicate 170 0) x.new.out refl x.ensures.1 some).1 c.listed.result c.listed.ensures in
    record { answer = m.0; count = m.1.0; pdus = m.1.1 }
