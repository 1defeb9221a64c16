-- Drives of no request and of one, worked out.
use Rattle.std.proofs.Common.{refl}
use Rattle.den_model.specs.Spelling.{u32_word, u64_word}
use Rattle.den_model.specs.Reading.{blob_at, insert_asked_at, operation_at, request_at, request_in, scan_at, size_at, write_at}
use Rattle.den_model.specs.Frames.{frame_of, frames_behind}
use Rattle.den_drive.specs.Generator.{number_at, request_of, requests_input}
use Rattle.den_drive.specs.Report.{IsReport}

pub no_request : IsReport 0 0 0 1 25
unfolding u32_word u64_word size_at frames_behind frame_of request_in request_at scan_at blob_at requests_input
no_request = record { all_asked = refl; keys_held = refl; index_last = refl; bytes_sent = refl }

pub one_request : IsReport 1 1 1 2 67
unfolding u32_word u64_word size_at frames_behind frame_of request_in request_at write_at operation_at insert_asked_at scan_at blob_at number_at request_of requests_input
one_request = record { all_asked = refl; keys_held = refl; index_last = refl; bytes_sent = refl }
