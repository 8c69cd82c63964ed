use Rattle.std.proofs.Common.{◌≡◌, ◌+◌, ◌*◌, ◌<◌, ◌≤◌, ◌++◌, length, take}
use Rattle.std.specs.Iterator.Adapters.{enumerate_source, enumerate_count}
use Rattle.std.specs.Slice.Iter.{split_inclusive_rest}
use Rattle.jobs.specs.Lines.{lines_of}
use Rattle.words.specs.Borrowed.{rest}
use Rattle.words.specs.Writing.{begun}
use Rattle.sheet.specs.Printing.{printed, sheet_prints}
use Rattle.sheet.specs.Setting.{held}
use Rattle.sheet.proofs.sheets.print_lines.Given as goal

-- what is written, with what the lines to come print, makes up what the sheet prints;
-- and at most 17 bytes are written for each byte read
abbrev pub invariant-loop-index : goal.invariant-loop-index
invariant-loop-index l = record {
  can : (goal.iterator-loop-index).can_next l.index-iterator;
  ends : (goal.iterator-loop-index).is_finite l.index-iterator;
  here : rest l.cursor ≡ split_inclusive_rest (enumerate_source l.index-iterator);
  within : l.written ≤ length l.out;
  row : l.out ≡ begun (take l.written l.out) l.initial.out;
  prints : take l.written l.out ++ printed (enumerate_count l.index-iterator + 1) (held l.set) (lines_of (split_inclusive_rest (enumerate_source l.index-iterator))) ≡ sheet_prints l.sheet;
  room : 0 < length (split_inclusive_rest (enumerate_source l.index-iterator)) → l.written + 17 * length (split_inclusive_rest (enumerate_source l.index-iterator)) ≤ 17 * length l.sheet;
  few : enumerate_count l.index-iterator + length (split_inclusive_rest (enumerate_source l.index-iterator)) ≤ length l.sheet;
}
