use Rattle.std.proofs.Common.{◌≡◌, ◌∙◌, ◌+◌, ◌++◌, ◌∷◌, [], ap, sym, arith, length, map}
use Rattle.std.specs.List.{range_with_len}
use Rattle.std.proofs.lemmas.List.FromFn.{length-map-range_with_len, map-range_with_len_more}
use Rattle.rule_book.specs.Senders.{Senders}
use Rattle.rule_book.specs.Settings.{accounts_of}
use Rattle.rule_book.proofs.system_accounts.SenderAccounts.build.Goals as goal

pub loop-before-init : goal.loop-before-init
loop-before-init c = record {
  accounts = ap (λ (s : Senders). s.accounts) c.in_ok-senders.ensures;
  most = ap (λ (s : Senders). s.most) c.in_ok-senders.ensures;
}

pub take-requires-clause-room : goal.take-requires-clause-room
take-requires-clause-room c =
    let here = ap length c.loop-before.invariant.accounts in
    let size = length-map-range_with_len (accounts_of c.args.day.now) 1 c.loop-before.before in
    omega (arith, here, size, c.loop-before.invariant.most)

pub loop-before-preserved : goal.loop-before-preserved
loop-before-preserved c =
    let i = c.loop-before.before in
    record {
      accounts =
          ap (λ (s : Senders). s.accounts) c.take.ensures
          ∙ (ap (λ xs. xs ++ accounts_of c.args.day.now (i + 1) ∷ []) c.loop-before.invariant.accounts
          ∙ sym (map-range_with_len_more (accounts_of c.args.day.now) 1 i (i + 1) (omega arith)));
      most = ap (λ (s : Senders). s.most) c.take.ensures ∙ c.loop-before.invariant.most;
    }

pub returns : goal.returns
returns c =
    let all : c.loop-before.before ≡ length c.args.day.now.messages = omega (arith, c.message_count-count.ensures) in
    c.loop-before.invariant.accounts ∙ ap (λ n. map (accounts_of c.args.day.now) (range_with_len 1 n)) all
