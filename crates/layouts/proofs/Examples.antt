-- P1 to P12 hold, and so do the tables of pitfalls, of written calls, of modes and of errors: antt computes them.
use mathlib.Core.Path.{◌≡◌, refl}
use mathlib.Core.List.{map}
use Rattle.text.specs.Prefix.{is_text, good_prefix, first, char_length, longer, low, high}
use Rattle.layouts.specs.Primitive.{number_at, number_bytes, pad_of, at_least}
use Rattle.layouts.specs.Shape.{layout}
use Rattle.layouts.specs.Pieces.{num_of, text_of, chunk_of, run, skip_of}
use Rattle.layouts.specs.Record.{noted, entered, record_of}
use Rattle.layouts.specs.Judge.{not_text, text_end, text_taken, half_taken, chunk_taken, judge_of, entries_of, payload_of}
use Rattle.layouts.specs.Operations.{kind_of, operations, published, find}
use Rattle.layouts.specs.Calls.{arguments_tree, skipped_tree, reply_tree, read_op_args, skip_op_args, skip_daemon_result}
use Rattle.layouts.specs.Stderr.{message_of, stderr_from, stderr_loop, read_stderr_loop, error_block, read_stderr_with_error}
use Rattle.layouts.specs.Handshake.{hear, judge_heard, daemon_info, greeting, handshake, parse_handshake}
use Rattle.layouts.specs.Writers.{view_of, string_bytes, strings_bytes, writing, text_at, texts_from}
use Rattle.layouts.specs.CallWriter.{fields_there, call_fields, value_for, leave, left_by, all_zero, has_frames, is_of_shape, strings_in, entries_for, field_bytes, fields_bytes, call_bytes, write_op_args}
use Rattle.layouts.specs.Examples.{Example, examples, pitfalls, calls_written, modes, errors}

pub hold : map (λ (e : Example). e.computed) examples ≡ map (λ (e : Example). e.stated) examples
unfolding examples is_text good_prefix first char_length longer low high number_at number_bytes pad_of at_least layout num_of text_of chunk_of run skip_of noted entered not_text text_end text_taken half_taken chunk_taken judge_of entries_of payload_of kind_of operations find arguments_tree skipped_tree read_op_args skip_op_args message_of stderr_from stderr_loop read_stderr_loop
hold = refl

pub avoided : map (λ (e : Example). e.computed) pitfalls ≡ map (λ (e : Example). e.stated) pitfalls
unfolding pitfalls is_text good_prefix first char_length longer low high number_at number_bytes pad_of at_least layout num_of text_of chunk_of run skip_of noted entered record_of not_text text_end text_taken half_taken chunk_taken judge_of kind_of operations find skipped_tree reply_tree skip_op_args skip_daemon_result hear judge_heard daemon_info greeting handshake parse_handshake
avoided = refl

pub calls_written_lem : map (λ (e : Example). e.computed) calls_written ≡ map (λ (e : Example). e.stated) calls_written
unfolding calls_written is_text good_prefix first char_length longer low high number_bytes pad_of at_least kind_of operations find view_of string_bytes strings_bytes writing text_at texts_from fields_there call_fields value_for leave left_by all_zero has_frames is_of_shape strings_in entries_for field_bytes fields_bytes call_bytes write_op_args
calls_written_lem = refl

pub told_apart : map (λ (e : Example). e.computed) modes ≡ map (λ (e : Example). e.stated) modes
unfolding modes is_text good_prefix first char_length longer low high number_at number_bytes pad_of at_least layout num_of text_of chunk_of run skip_of noted entered not_text text_end text_taken half_taken chunk_taken judge_of kind_of operations published find arguments_tree skipped_tree read_op_args skip_op_args view_of string_bytes strings_bytes text_at texts_from fields_there call_fields value_for leave left_by all_zero has_frames is_of_shape strings_in entries_for field_bytes fields_bytes call_bytes
told_apart = refl

pub errors_told : map (λ (e : Example). e.computed) errors ≡ map (λ (e : Example). e.stated) errors
unfolding errors is_text good_prefix first char_length longer low high number_at number_bytes pad_of at_least layout num_of text_of run skip_of noted entered not_text text_end text_taken judge_of message_of stderr_from stderr_loop error_block read_stderr_with_error
errors_told = refl
