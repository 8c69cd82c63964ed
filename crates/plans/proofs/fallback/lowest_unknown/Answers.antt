use Rattle.std.proofs.Common.{◌≡◌, rules, subst, arith}
use Rattle.std.specs.Iterator.Runs.{IsWindowsRun}
use Rattle.std.specs.Slice.ArrayWindows.{array_windows_parts}
use Rattle.std.specs.Slice.Iter.{windows_rest, windows_size}
use Rattle.logs.proofs.Sound.{is_log_lem}
use Rattle.logs.specs.Points.{points}
use Rattle.plans.proofs.Windows.{found_by_windows}
use Rattle.plans.proofs.fallback.lowest_unknown.Goals as goal

pub returns : goal.returns
returns c =
    let log = points c.args.log.now in
    let found = c.find_map.ensures.runs in
    let run = found.0 in
    let from = array_windows_parts run.from in
    let two : windows_size from ≡ 2 = cc in
    let row : windows_rest from ≡ log = cc in
    let windows = subst (λ n. IsWindowsRun run n log) two (subst (λ ps. IsWindowsRun run (windows_size from) ps) row (c.array_windows.ensures.runs run run.seen (omega arith))) in
    found_by_windows _ _ log run windows (λ x r q k. search rules) (is_log_lem log c.args.log.now.sound) c.find_map.result found.2
