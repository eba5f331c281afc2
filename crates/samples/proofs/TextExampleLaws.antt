-- The drawn texts, computed.
-- Assumes nothing.
use mathlib.Core.Path.{refl}
use Rattle.model.specs.Lists.{tabulate}
use Rattle.model.specs.Search.{first_from}
use Rattle.tables.specs.Layout.{layout_for}
use Rattle.encoding.specs.Bytes.{joined}
use Rattle.printing.specs.Text.{decimal_of}
use Rattle.scanning.specs.Reading.{is_digit}
use Rattle.scanning.specs.Faults.{digits_only, with_digits}
use Rattle.words.specs.Words.{is_blank, is_end, begins_with_feed, unreturned, spelled_after, spelled_from, amount_of, ended, in_word, events_of}
use Rattle.typing.specs.Lines.{task_begun, section_begun, version_begun, begun_by, number_line, delays_behind, went_on, line_after, is_taken, fields_after, is_whole, whole_line, ended_line}
use Rattle.typing.specs.Reading.{state_heard, state_ended, draft_after, version_for, reading_of}
use Rattle.samples.specs.TextExamples.{examples, TextExamples}

pub text_examples : TextExamples
unfolding tabulate first_from layout_for joined decimal_of is_digit digits_only with_digits is_blank is_end begins_with_feed unreturned spelled_after spelled_from amount_of ended in_word events_of task_begun section_begun version_begun begun_by number_line delays_behind went_on line_after is_taken fields_after is_whole whole_line ended_line state_heard state_ended draft_after version_for reading_of examples
text_examples = refl
