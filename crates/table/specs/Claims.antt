-- The tables stand for the layouts of `layouts`: computed, row by row. `./tables` makes them from what is claimed here.
use Rattle.std.specs.Prelude.{ℕ, ◌≡◌, refl, List, [], ◌∷◌, map}
use Rattle.layouts.specs.Primitive.{version}
use Rattle.layouts.specs.Shape.{as_count, kept, set, framed, Group, once, layout}
use Rattle.layouts.specs.Operations.{arguments_number, reply_number, skipped_number, Kinds, none, only, by_version, by_flag, by_number, skipped_kind, Operation, a_number, a_string, operations, published}
use Rattle.layouts.specs.Calls.{field}
use Rattle.layouts.specs.Stderr.{Next, Read, Write, StartActivity, StopActivity, Result#, goes, message_of, ported_error, traced_error, short_error}
use Rattle.layouts.specs.Handshake.{hello, feature_fields, obsolete_fields, info_fields}
use Rattle.table.specs.declared.Row.{Row}
use Rattle.table.specs.Numbered.{Numbered, just}
use Rattle.table.specs.Numbered as K
use Rattle.table.specs.Packed.{packed_table, rows, published_rows}
use Rattle.table.specs.Packed as P
use Rattle.table.specs.Table.{role_of, target_of, what_of, item_of, unless_end, cons_gated, items, items_at, group_of, cons_group, groups_in, groups_at, numbered_of}

-- kinds as the table has them
abbrev pub numbered : Kinds → Numbered
numbered none = just 0
numbered (only k) = just k
numbered (by_version x k l) = K.by_version x (numbered k) (numbered l)
numbered (by_flag k l) = K.by_flag (numbered k) (numbered l)

-- what a row has to say of an operation
pub record Said : Type 0 where
  pub code : ℕ
  pub arguments : List Group
  pub skips : List Group
  pub reply : List Group
  pub arguments_kind : Numbered
  pub skipped_kind : Numbered
  pub reply_kind : Numbered

abbrev pub said : Row → Said
said r =
    record {
      code = r.number;
      arguments = groups_at r.arguments;
      skips = groups_at r.skipped;
      reply = groups_at r.reply;
      arguments_kind = numbered_of r.arguments_kind;
      skipped_kind = numbered_of r.skipped_kind;
      reply_kind = numbered_of r.reply_kind;
    }

abbrev pub wanted : Operation → Said
wanted o =
    record {
      code = o.code;
      arguments = once o.arguments ∷ [];
      skips = once o.skips ∷ [];
      reply = o.reply;
      arguments_kind = numbered (by_number arguments_number o.arguments_kind);
      skipped_kind = numbered (by_number skipped_number (skipped_kind o.skip));
      reply_kind = numbered (by_number reply_number o.reply_kind);
    }

pub rows_say : map said rows ≡ map wanted operations
unfolding operations groups_at groups_in cons_group group_of items_at items cons_gated unless_end item_of what_of target_of role_of packed_table numbered_of
rows_say = refl

pub published_say : map said published_rows ≡ map wanted published
unfolding published groups_at groups_in cons_group group_of items_at items cons_gated unless_end item_of what_of target_of role_of packed_table numbered_of
published_say = refl

-- the other layouts
pub record Others : Type 0 where
  pub next : message_of Next ≡ goes (groups_at P.string_message)
  pub write : message_of Write ≡ goes (groups_at P.string_message)
  pub read : message_of Read ≡ goes (groups_at P.number_message)
  pub stopped : message_of StopActivity ≡ goes (groups_at P.number_message)
  pub started : message_of StartActivity ≡ goes (groups_at P.start_activity)
  pub result : message_of Result# ≡ goes (groups_at P.result_message)
  pub ported : ported_error ≡ groups_at P.ported_error
  pub traced : traced_error ≡ groups_at P.traced_error
  pub short : short_error ≡ groups_at P.short_error
  pub client : hello 0 1 ≡ layout (version 0 0) (groups_at P.hello_client)
  pub daemon : hello 2 3 ≡ layout (version 0 0) (groups_at P.hello_daemon)
  pub client_features : once (feature_fields 0) ∷ [] ≡ groups_at P.features_client
  pub daemon_features : once (feature_fields 1) ∷ [] ≡ groups_at P.features_daemon
  pub obsoletes : once obsolete_fields ∷ [] ≡ groups_at P.obsolete
  pub infos : once info_fields ∷ [] ≡ groups_at P.info
  pub strings : field (set kept (as_count 0)) ≡ layout (version 0 0) (groups_at P.string_set)
  pub chunks : field framed ≡ layout (version 0 0) (groups_at P.framed_data)
  pub none : [] ≡ groups_at P.nothing
  pub empty : once [] ∷ [] ≡ groups_at P.empty_fields
  pub number : a_number ≡ groups_at P.one_number
  pub string : a_string ≡ groups_at P.one_string

pub others : Others
unfolding message_of groups_at groups_in cons_group group_of items_at items cons_gated unless_end item_of what_of target_of role_of packed_table
others =
    record {
      next = refl;
      write = refl;
      read = refl;
      stopped = refl;
      started = refl;
      result = refl;
      ported = refl;
      traced = refl;
      short = refl;
      client = refl;
      daemon = refl;
      client_features = refl;
      daemon_features = refl;
      obsoletes = refl;
      infos = refl;
      strings = refl;
      chunks = refl;
      none = refl;
      empty = refl;
      number = refl;
      string = refl;
    }
