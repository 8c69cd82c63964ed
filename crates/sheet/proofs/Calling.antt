-- Every sheet prints, line by line, what the calls that its lines ask for give. Assumes nothing.
use Rattle.std.proofs.Common.{◌≡◌, ℕ, ◌+◌, ◌-◌, ◌<◌, ◌≤◌, Bool, true, false, ◌↔◌, List, [], ◌∷◌, length, is_some, Some, None, Ok, Option, sym, refl, ap, ◌∙◌, subst, mul-le-mul_left, arith}
use Rattle.std.proofs.lemmas.Bool.Decides.{nat_tests}
use Rattle.bench.specs.Runs.{budget_denied}
use Rattle.denials.specs.Bounds.{bad_span}
use Rattle.denials.specs.Checks.{first}
use Rattle.jobs.specs.Jobs.{Job, diagonal, table, spacing, widest, asking, Fits, job_of}
use Rattle.jobs.specs.Lines.{lines_of}
use Rattle.jobs.proofs.Forming.{lines_are_exact}
use Rattle.loggers.specs.Makings.{bad_rise, first_fall, placed, diagonal_denied, table_denied}
use Rattle.loggers.specs.Meaning.{Sound, row_table}
use Rattle.loggers.proofs.Falls.{first_fall_none}
use Rattle.plans.specs.declared.ways.Way.{Way}
use Rattle.plans.specs.declared.ways.Way.TheVariants.{EqualSpacing, WidestRectangle}
use Rattle.plans.specs.Lawful.{widest_is_lawful}
use Rattle.plans.specs.Ways.{plan_of}
use Rattle.tables.specs.Log.{Possible, fresh, low, high}
use Rattle.tables.specs.Plan.{Lawful}
use Rattle.tables.specs.Table as tables
use Rattle.tables.specs.Table.{Table}
use Rattle.tables.proofs.Limits.{width_is_gaps, limits_are_sharp}
use Rattle.tables.proofs.Runs.{lawful_asks_all}
use Rattle.tables.proofs.Spacing.{spacing_is_lawful}
use Rattle.tables.proofs.Unknown.{span_of_log}
use Rattle.words.specs.Writing.{line_bytes}
use Rattle.sheet.specs.Laws.{RunLine, Leads, other_form, denied, sets_diagonal, sets_table, runs_spacing, runs_widest, LineByLine, over, next, SheetsAreCalls}
use Rattle.sheet.specs.Leading.{stands, does, unless, leads}
use Rattle.sheet.specs.Printing.{letter_of, shown, printed}
use Rattle.sheet.specs.Running.{ran_on, figures_of}
use Rattle.sheet.specs.Setting.{Setting}
use Rattle.sheet.proofs.Outcomes.{ran_from_lem}

-- the logger that is set, if one is, is one
abbrev SoundSetting : Setting → Type 0
SoundSetting None = Unit {0}
SoundSetting (Some l) = Sound l.0 l.1

-- a span that is accepted
good_span : (n : ℕ) → bad_span n ≡ false → (1 ≤ n) × (n ≤ 1000000)
good_span n e = grind (arith, nat_tests)

-- the first of two checks did not fail
first_of_two : (a b : Bool) (x y : ℕ × List ℕ) → first ((a, x) ∷ (b, y) ∷ []) ≡ None → (a ≡ false) × (b ≡ false)
first_of_two true b x y e = absurd cc
first_of_two false true x y e = absurd cc
first_of_two false false x y e = (refl, refl)

-- an accepted diagonal and an accepted table are loggers
diagonal_sound : (N c : ℕ) → diagonal_denied N c ≡ None → Sound (tables.diagonal c) N
diagonal_sound N c e =
    let span = good_span N (first_of_two (bad_span N) (bad_rise N c) (1, []) (12, []) e).0 in
    (span.0, span.1, λ i j _ le _. mul-le-mul_left c le)

none_if_not_some : (o : Option ℕ) → is_some o ≡ false → o ≡ None
none_if_not_some None e = refl
none_if_not_some (Some x) e = absurd cc

table_sound : (vs : List ℕ) → table_denied vs ≡ None → Sound (row_table vs) (length vs - 1)
table_sound vs e =
    let checks = first_of_two (bad_span (length vs - 1)) (is_some (first_fall vs)) (1, []) (14, placed (first_fall vs)) e in
    let span = good_span (length vs - 1) checks.0 in
    let never = (first_fall_none vs).0 (none_if_not_some (first_fall vs) checks.1) in
    (span.0, span.1, λ i j _ le within. never i j le (omega (arith, span.0)))

-- a budget that is accepted
good_budget : (N n : ℕ) → 1 ≤ N → budget_denied N n ≡ None → n < N
good_budget N n some e = grind (arith, nat_tests)

-- a printed run is a run of the plan, with its sharp limits
run_line : (way : Way) (t : Table) (N n : ℕ) → Lawful (plan_of way n) → Sound t N → budget_denied N n ≡ None → RunLine (letter_of way) (plan_of way n) t N n (shown 0 (Ok (Some (figures_of way t N n))))
run_line way t N n lawful sound fine =
    let plan = plan_of way n in
    let xs = (ran_on plan t N n).0 in
    let log = (ran_on plan t N n).1 in
    let run = ran_from_lem plan t n (fresh N (t 0) (t N)) in
    let all = lawful_asks_all plan lawful t N n sound.2 (good_budget N n sound.0 fine) xs log run in
    record {
      questions = xs;
      log = log;
      low = low log;
      high = high log;
      run = run;
      all = all.count;
      limits = record { low_is = refl; high_is = refl; sharp = λ y. subst (λ k. ((low log ≤ y) × (y ≤ high log)) ↔ Possible k log y) (sym (span_of_log N log all.is_log)) (limits_are_sharp N log all.is_log y) };
      order = (width_is_gaps N log all.is_log).0;
      printed = ap (λ k. line_bytes (letter_of way) (N ∷ k ∷ low log ∷ high log ∷ (high log - low log) ∷ [])) all.count;
    }

-- the logger that a job sets is one
does_sound : (s : Setting) (job : Job) → stands s job ≡ None → SoundSetting s → SoundSetting (does s job).0
does_sound s (diagonal N c) e sound = diagonal_sound N c e
does_sound s (table vs) e sound = table_sound vs e
does_sound s (spacing n) e sound = sound
does_sound s (widest n) e sound = sound

-- so the logger that is set after a line is one
still_sound : (s : Setting) (o : Option Job) → SoundSetting s → SoundSetting (leads s o).0
still_sound s None sound = sound
still_sound s (Some job) sound = go (stands s job) refl
  where
    go : (d : Option (ℕ × List ℕ)) → stands s job ≡ d → SoundSetting (unless d s (does s job)).0
    go (Some d) e = sound
    go None e = does_sound s job e sound

-- what an accepted job leads to
accepted : (i : ℕ) (s : Setting) (line : List ℕ) (job : Job) → SoundSetting s → line ≡ asking job → stands s job ≡ None → Leads i s line (does s job).0 (shown i (Ok (does s job).1))
accepted i s line (diagonal N c) sound is e = sets_diagonal N c is e
accepted i s line (table vs) sound is e = sets_table vs is e
accepted i None line (spacing n) sound is e = absurd cc
accepted i (Some l) line (spacing n) sound is e = runs_spacing l.0 l.1 n _ is refl e (run_line EqualSpacing l.0 l.1 n (spacing_is_lawful n) sound e)
accepted i None line (widest n) sound is e = absurd cc
accepted i (Some l) line (widest n) sound is e = runs_widest l.0 l.1 n _ is refl e (run_line WidestRectangle l.0 l.1 n widest_is_lawful sound e)

-- what a line leads to, by what it asks for
lead_by : (i : ℕ) (s : Setting) (line : List ℕ) (o : Option Job) → job_of line ≡ o → SoundSetting s → Leads i s line (leads s o).0 (shown i (leads s o).1)
lead_by i s line None e sound =
    other_form (λ job fits is. let z : ◌≡◌ {A = Option Job} None (Some job) = sym e ∙ (lines_are_exact line job).1 (is, fits) in cc)
lead_by i s line (Some job) e sound = go (stands s job) refl
  where
    exact : (line ≡ asking job) × Fits job
    exact = (lines_are_exact line job).0 e

    go : (d : Option (ℕ × List ℕ)) → stands s job ≡ d → Leads i s line (unless d s (does s job)).0 (shown i (unless d s (does s job)).1)
    go (Some d) p = denied job d exact.1 exact.0 p
    go None p = accepted i s line job sound exact.0 p

lead : (i : ℕ) (s : Setting) (line : List ℕ) → SoundSetting s → Leads i s line (leads s (job_of line)).0 (shown i (leads s (job_of line)).1)
lead i s line sound = lead_by i s line (job_of line) refl sound

by_lines : (i : ℕ) (s : Setting) (lines : List (List ℕ)) → SoundSetting s → LineByLine i s lines (printed i s lines)
by_lines i s [] sound = over
by_lines i s (l ∷ ls) sound = next (lead i s l sound) (by_lines (i + 1) (leads s (job_of l)).0 ls (still_sound s (job_of l) sound))

pub sheets_are_calls : SheetsAreCalls
sheets_are_calls sheet = by_lines 1 None (lines_of sheet) tt
