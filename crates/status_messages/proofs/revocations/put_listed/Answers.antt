use Rattle.std.proofs.Common.{◌∙◌, ◌+◌, ◌||◌, ap, drop, get_or, length, subst, sym, take}
use Rattle.std.specs.Prelude.{nat_le, nat_lt}
use Rattle.std.specs.List.{flat_map, range_with_len}
use Rattle.std.proofs.lemmas.List.{drop_all, drop_more}
use Rattle.outside_io.proofs.PutLemmas.{has_put_is, has_put_more, has_put_none, puts_all, puts_front}
use Rattle.commit_journal.specs.Histories.{oldest}
use Rattle.machine.specs.Records.Messages.{entries}
use Rattle.status_messages.specs.LineTexts.{entry_revocation}
use Rattle.status_messages.proofs.ListedTexts.{Left, all_told, none_told, step}
use Rattle.status_messages.proofs.RevokedHere.{untold}
use Rattle.status_messages.proofs.revocations.put_listed.Goals as goal

pub loop-key-init : goal.loop-key-init
loop-key-init g c =
    let lines = c.args.lines.now in
    let day = lines.setting.now.day in
    let f = entry_revocation day (oldest lines.journal.now.history lines.place) lines.place c.args.b in
    record {
      put = has_put_none _;
      left = none_told f (length (entries day c.args.b)) c.args.keys.now c.requires.rises (λ k none. untold day (oldest lines.journal.now.history lines.place) lines.place c.args.b k (c.requires.named k none));
    }

pub loop-key-preserved : goal.loop-key-preserved
loop-key-preserved g c =
    let lines = c.args.lines.now in
    let day = lines.setting.now.day in
    let f = entry_revocation day (oldest lines.journal.now.history lines.place) lines.place c.args.b in
    let count = length (entries day c.args.b) in
    let keys = c.args.keys.now in
    let rest = drop (c.loop-key.key-index + 1) keys in
    let left = subst (Left f count c.loop-key.told) (drop_more keys c.loop-key.key-index 0 c.loop-key-test.true) c.loop-key.invariant.left in
    let k = c.entry_of-k.result in
    let passes = c.is_passed_over-passed_over.ensures ∙ ap (λ n. nat_le k c.loop-key.told || nat_lt n k) c.entry_count-count.ensures.count in
    let next = step f count c.loop-key.told (get_or keys c.loop-key.key-index 0) k rest c.is_passed_over-passed_over.result c.entry_of-k.ensures passes left in
    record {
      put = has_put_is _ _ _ _ (next.text ∙ ap (λ i. flat_map f (take i (range_with_len 1 count))) (sym c.told_then-told.ensures)) (has_put_more _ _ _ _ _ _ c.loop-key.invariant.put c.in_ok-put_unless.ensures);
      left = subst (λ i. Left f count i rest) (sym c.told_then-told.ensures) next.left;
    }

pub returns-in_err-put_unless : goal.returns-in_err-put_unless
returns-in_err-put_unless g c =
    let lines = c.args.lines.now in
    let day = lines.setting.now.day in
    let f = entry_revocation day (oldest lines.journal.now.history lines.place) lines.place c.args.b in
    let count = length (entries day c.args.b) in
    let keys = c.args.keys.now in
    let rest = drop (c.loop-key.key-index + 1) keys in
    let left = subst (Left f count c.loop-key.told) (drop_more keys c.loop-key.key-index 0 c.loop-key-test.true) c.loop-key.invariant.left in
    let k = c.entry_of-k.result in
    let passes = c.is_passed_over-passed_over.ensures ∙ ap (λ n. nat_le k c.loop-key.told || nat_lt n k) c.entry_count-count.ensures.count in
    let next = step f count c.loop-key.told (get_or keys c.loop-key.key-index 0) k rest c.is_passed_over-passed_over.result c.entry_of-k.ensures passes left in
    puts_front _ _ _ _ _ _ _ _ _ c.from_residual.ensures.0 next.front c.loop-key.invariant.put c.in_err-put_unless.ensures

pub returns : goal.returns
returns g c =
    let lines = c.args.lines.now in
    let day = lines.setting.now.day in
    let f = entry_revocation day (oldest lines.journal.now.history lines.place) lines.place c.args.b in
    let count = length (entries day c.args.b) in
    let left = subst (Left f count c.loop-key.told) (drop_all c.loop-key.key-index c.args.keys.now c.loop-key-test.false) c.loop-key.invariant.left in
    puts_all _ _ _ tt (has_put_is _ _ _ _ (all_told f count c.loop-key.told left) c.loop-key.invariant.put)
