use Rattle.std.proofs.Common.{◌≡◌, ◌+◌, inr, arith, length, drop, take, sym, ◌∙◌}
use Rattle.den_model.specs.Reading.{size_at}
use Rattle.den_gate.proofs.Written.{region_at, size_is}
use Rattle.den_gate.proofs.Seen.{first_byte, bytes_in}
use Rattle.den_gate.proofs.look.found_in.Goals as goal

pub returns-then-len-at-clause-found : goal.returns-then-len-at-clause-found
returns-then-len-at-clause-found c = λ file long is.
    let at = c.args.at in
    let header = c.args.header.now in
    let read : c.copy_from_slice.new.self ≡ take 8 (drop (at + 1) file) = c.copy_from_slice.ensures.after ∙ bytes_in at (length header) file header is 1 8 (omega arith) in
    let value : size_at (drop (at + 1) file) ≡ c.field_value-size.result = size_is at file c.copy_from_slice.new.self c.field_value-size.result (omega arith) read c.field_value-size.ensures in
    record {
      opened = sym (first_byte at (length header) file header is (omega arith)) ∙ c.if-header-ne1.false;
      short = inr (omega (arith, value, long, c.if-len-at.true));
    }

pub returns-clause-found : goal.returns-clause-found
returns-clause-found c = λ file long is.
    let at = c.args.at in
    let header = c.args.header.now in
    let read : c.copy_from_slice.new.self ≡ take 8 (drop (at + 1) file) = c.copy_from_slice.ensures.after ∙ bytes_in at (length header) file header is 1 8 (omega arith) in
    region_at at file c.copy_from_slice.new.self c.field_value-size.result (omega (arith, long, c.if-len-at.false))
    (sym (first_byte at (length header) file header is (omega arith)) ∙ c.if-header-ne1.false) read c.field_value-size.ensures
