use Rattle.std.proofs.Common.{rules, ◌++◌, ◌∙◌}
use Rattle.kanal_script.proofs.EventWords.{behind, behind_end, name, name_word, no_name, words_cut}
use Rattle.kanal_script.proofs.parser.Parser.event.Goals as goal

pub returns-in-recv_late-clause-taken : goal.returns-in-recv_late-clause-taken
returns-in-recv_late-clause-taken c = search rules

pub returns-in-drop_tx-clause-taken : goal.returns-in-drop_tx-clause-taken
returns-in-drop_tx-clause-taken c = search rules

pub returns-in_err-word-clause-read : goal.returns-in_err-word-clause-read
returns-in_err-word-clause-read c = λ event s fits end is.
    absurd (c.in_err-word.ensures.read (name event) (behind event ++ s) (name_word event) (behind_end event s end) (is ∙ words_cut event s))

pub returns-in_default-clause-read : goal.returns-in_default-clause-read
returns-in_default-clause-read c = λ event s fits end is.
    let named = c.in_ok-word.ensures.read (name event) (behind event ++ s) (name_word event) (behind_end event s end) (is ∙ words_cut event s) in
    absurd (
    no_name c.in_ok-word.field-0.now event
    record {
      not_send = c.in_default.not-send;
      not_try_send = c.in_default.not-try_send;
      not_recv = c.in_default.not-recv;
      not_recv_late = c.in_default.not-recv_late;
      not_try_recv = c.in_default.not-try_recv;
      not_drain = c.in_default.not-drain;
      not_withdraw = c.in_default.not-withdraw;
      not_clone_tx = c.in_default.not-clone_tx;
      not_clone_rx = c.in_default.not-clone_rx;
      not_drop_tx = c.in_default.not-drop_tx;
      not_drop_rx = c.in_default.not-drop_rx;
      not_seal = c.in_default.not-seal;
      not_close = c.in_default.not-close;
      not_ask = c.in_default.not-ask;
      not_terminated = c.in_default.not-terminated;
    }
    named.0
    )
