-- The names that these proofs cite, passed on from one place. Declares nothing.
pub use Rattle.kanal_events.specs.declared.event.Event.{Event}
pub use Rattle.kanal_events.specs.declared.event.Event.TheVariants.{Ask as Asks, CloneRx, CloneTx, Close, Drain, DropRx, DropTx, Recv, RecvLate, Seal, Send, Terminated, TryRecv, TrySend, Withdraw}
pub use Rattle.kanal_script.specs.Answer.{cleared_count, count_settled, counted, drained_count, messages_text, replies_text, reply_words, report_text, settlement_words, settlements_text}
pub use Rattle.kanal_script.specs.Faults.{IsFirstFault, IsReadBefore, IsReadNoFurther}
pub use Rattle.kanal_script.specs.Program.{AppendsBeginning, IsReadFault, IsScriptFault, fault_status}
pub use Rattle.kanal_script.specs.Script.{IsPlain, IsReadTo, ask_word, capacity_words, event_words, events_text, line, script_text, side_word}
pub use Rattle.kanal_script.specs.Words.{EndsLine, EndsWord, EventFits, EventsFit, FitsWord, IsWord, after_word, is_separator, limit_word, word_of}
pub use Rattle.kanal_script.specs.declared.parser.ParseError.TheVariants.{NoMemory as NoRoom, Unreadable as Unread}
pub use Rattle.kanal_core.proofs.Common.{Bool, IfSome, IsSome, List, None, Option, Some, [], ap, append-nil, append_assoc, arith, drop, false, inl, inr, length, length-append, refl, rules, subst, suc, sym, take, true, zero, ℕ, ◌&&◌, ◌++◌, ◌+◌, ◌<◌, ◌∙◌, ◌∷◌, ◌≡◌, ◌≢◌, ◌⊎◌, ltb-true, take-append-drop, take_all}
pub use Rattle.std.proofs.Common.{Err, IsNone, Ok, Result, codes, decimal, drop-cons, min, nat_lt, ne_eqb, true≢false, ◌^◌}
pub use Rattle.kanal_journal.proofs.Common.{add-one, get_or, cases_lt}
pub use Rattle.std.proofs.lemmas.Fmt.{decimal-digits_value, decimal_digit, decimal_is_IsNumeral, first_decimal, parse-decimal}
pub use Rattle.std.proofs.lemmas.List.{append_cancel_right, drop_all, take_more}
pub use Rattle.std.proofs.lemmas.Str.Parse.{IsNumeralModel, digit_from_value, numerals_by_value, parse_plain, tells_digits}
pub use Rattle.std.specs.Io.KnownBytes.{Appends, Keeps, WriteAppends}
pub use Rattle.std.specs.Str.{IsAscii, IsUtf8}
pub use Rattle.std.specs.Str.Parse.{AllDigits, ParsesUnsigned, digits_value}
