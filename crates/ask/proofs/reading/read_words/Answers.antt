use Rattle.std.proofs.Common.{ℕ, ◌-◌, length, take, drop, Some, None, Err, MatchResult, Result, Vec, Global, refl, ap, inl, inr}
use Rattle.std.specs.Result.{result_map_both}
use Rattle.ask.specs.declared.lines.Fault.{Fault}
use Rattle.ask.specs.declared.lines.Line.{Line}
use Rattle.ask.specs.Words.{SayNumbers, TellsFirstUnclear, ReadsWords}
use Rattle.ask.proofs.WordLemmas.{faulty, passed_on, from_parts}
use Rattle.ask.proofs.reading.read_words.Goals as goal

pub returns-in_err-kind : goal.returns-in_err-kind
returns-in_err-kind c =
    let e = c.in_err-kind.ensures in
    faulty c.from_residual.result c.in_err-kind.field-0.0 (ReadsWords c.args.words.now) c.from_residual.ensures.1
    (from_parts c.args.words.now _ None _ c.in-len1-up.len_at_least e.0 (ap (λ (f : Fault). Err f) e.1))

pub returns-in_err-numbers : goal.returns-in_err-numbers
returns-in_err-numbers c =
    let rest = take (length c.args.words.now - 1) (drop 1 c.args.words.now) in
    let P : Result (Vec ℕ Global) Fault → Type 0 = λ r. MatchResult r (λ v. SayNumbers rest v.items) (TellsFirstUnclear rest) in
    passed_on c.in_err-numbers.field-0.0 c.from_residual-in_err-numbers.result P (ReadsWords c.args.words.now) c.from_residual-in_err-numbers.ensures.1 c.in_err-numbers.ensures
    (λ f tells. from_parts c.args.words.now _ (Some c.in_ok-kind.kind) (Err f) c.in-len1-up.len_at_least c.in_ok-kind.ensures (inr (f, tells, refl)))

pub returns-in_err-line : goal.returns-in_err-line
returns-in_err-line c =
    faulty c.from_residual-in_err-line.result c.in_err-line.field-0.0 (ReadsWords c.args.words.now) c.from_residual-in_err-line.ensures.1
    (from_parts c.args.words.now _ (Some c.in_ok-kind.kind) _ c.in-len1-up.len_at_least c.in_ok-kind.ensures
    (inl (c.in_ok-numbers.numbers, c.in_ok-numbers.ensures, ap (λ (l : Result Line Fault). result_map_both Some (λ (f : Fault). f) l) c.in_err-line.ensures)))

pub returns : goal.returns
returns c =
    from_parts c.args.words.now _ (Some c.in_ok-kind.kind) _ c.in-len1-up.len_at_least c.in_ok-kind.ensures
    (inl (c.in_ok-numbers.numbers, c.in_ok-numbers.ensures, ap (λ (l : Result Line Fault). result_map_both Some (λ (f : Fault). f) l) c.in_ok-line.ensures))
