use Rattle.std.proofs.Common.{◌≡◌, ◌+◌, eqb, length, drop, refl, ap, ◌∙◌, rules, arith}
use Rattle.std.proofs.Math.Seq.{drop-append_seam}
use Rattle.std.proofs.lemmas.List.Sorted.{answers_always}
use Rattle.std.specs.Iterator.Adapters.{enumerate_source, enumerate_count}
use Rattle.std.specs.Slice.Iter.{split_inclusive_rest}
use Rattle.jobs.specs.Lines.{line_of}
use Rattle.jobs.specs.Jobs.{job_of}
use Rattle.jobs.specs.Said.{said}
use Rattle.sheet.specs.Setting.{held}
use Rattle.sheet.proofs.Cutting.{piece_is_line}
use Rattle.sheet.proofs.Stepping.{grown, printed_from, moved}
use Rattle.sheet.proofs.Lengths.{shown_short}
use Rattle.sheet.proofs.sheets.print_lines.Goals as goal

pub loop-index-preserved : goal.loop-index-preserved
loop-index-preserved c =
    let s = c.in-Some.ensures.steps in
    let count : enumerate_count c.next.new.self ≡ enumerate_count c.loop-index.index-iterator + 1 = s.2 in
    let cut = piece_is_line (split_inclusive_rest (enumerate_source c.loop-index.index-iterator)) c.in-Some.line.now (split_inclusive_rest (enumerate_source c.next.new.self)) s.0.1.0 s.0.0 s.0.1.1 (s.0.1.2 (λ y. eqb y 10) (answers_always _ _ _ (λ f a r q k. search rules))).1 s.0.2 in
    let job : said c.job_at.result ≡ job_of (line_of c.in-Some.line.now) = c.job_at.ensures ∙ ap (λ q. job_of (line_of q)) c.loop-index.invariant.here ∙ ap job_of cut.line in
    let grow = grown c.args.out.now c.loop-index.out c.print_reply-written.new.out _ c.loop-index.written _ _ c.loop-index.invariant.row c.loop-index.invariant.within (omega arith) refl c.print_reply-written.ensures.end c.print_reply-written.ensures.row in
    record {
      can = search rules;
      ends = tt;
      here = c.skip-cursor.ensures.rest ∙ ap (drop (length c.in-Some.line.now)) (c.loop-index.invariant.here ∙ s.0.0) ∙ drop-append_seam c.in-Some.line.now _;
      within = grow.within;
      row = grow.row;
      prints =
          moved _ _ _ _ _ _ grow.front
          (printed_from _ _ _ (enumerate_count c.loop-index.index-iterator + 1) _ (enumerate_count c.next.new.self + 1) (held c.loop-index.set) (held c.enter-reply.new.set) (said c.job_at.result) c.enter-reply.result cut (omega (arith, s.1)) (omega arith) job c.enter-reply.ensures.held c.enter-reply.ensures.reply)
          c.loop-index.invariant.prints;
      room = λ more.
          let short = shown_short _ (held c.loop-index.set) (line_of c.in-Some.line.now) (said c.job_at.result) c.enter-reply.result _ (omega (arith, s.1, cut.some, cut.parts)) job c.enter-reply.ensures.reply c.print_reply-written.ensures.end in
          omega (arith, cut.ends more, cut.parts, c.loop-index.invariant.room s.0.2, short);
      few = omega (arith, cut.some, cut.parts, count);
    }
