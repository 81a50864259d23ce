-- Commands that set and show compatibility levels and modes, global ones and those of a subject.
use Rattle.std.specs.Prelude.{ℕ, Bool, List, codes, Option, None, Some, if◌then◌else◌}
use Rattle.std.specs.Option.{option_or}
use Rattle.serde_json.specs.Data.{string, object, member, no_members}
use Rattle.serde_json.specs.Written.{compact_text}
use Rattle.reg_core.specs.declared.level.Level.{Level}
use Rattle.reg_core.specs.declared.mode.Mode.{Mode}
use Rattle.reg_core.specs.declared.code.Code.{Code}
use Rattle.reg_core.specs.declared.code.Code.TheVariants.{InvalidLevel, NoOwnLevel, InvalidMode, NoOwnMode}
use Rattle.reg_core.specs.Levels.{level_of, level_text}
use Rattle.reg_core.specs.Modes.{mode_of, mode_text}
use Rattle.reg_core.specs.Replies.{ReplyView, success, fault}
use Rattle.reg_core.specs.Registry.{Registry, own_with}

-- Schema Registry API reference, Config and Mode: a kind of setting, levels or modes. `text_of` and `value_of` relate values and their spellings.
-- `put` sets a subject's own value, or the global one if there is no subject. `member_in_put` and `member_in_get` name the member in the replies to
-- PUT and GET. `unknown` is the code for a text that spells no value, and `absent` the code for a subject without a value of its own.
pub record Setting (A : Type 0) : Type 0 where
  pub text_of : A → List ℕ
  pub value_of : List ℕ → Option A
  pub put : Registry → Option (List ℕ) → A → Registry
  pub member_in_put : List ℕ
  pub member_in_get : List ℕ
  pub unknown : Code
  pub absent : Code

-- RFC 8259, section 4: a compact object with one member, whose value is this text
abbrev pub setting_object : List ℕ → List ℕ → List ℕ
setting_object name text = compact_text (object (member name (string text) no_members))

-- Schema Registry API reference, PUT /config, /config/{subject}, /mode and /mode/{subject}: sets the value and replies with it; rejects a
-- text that spells no value
abbrev pub set : {A : Type 0} → Setting A → Registry → Option (List ℕ) → Option A → Registry × ReplyView
set s g subject None = (g, fault s.unknown)
set s g subject (Some value) = (s.put g subject value, success (setting_object s.member_in_put (s.text_of value)))

-- Schema Registry API reference, GET /config and GET /mode: the reply that shows the value
abbrev pub setting_reply : {A : Type 0} → Setting A → A → ReplyView
setting_reply s value = success (setting_object s.member_in_get (s.text_of value))

-- Schema Registry API reference, GET /config/{subject} and GET /mode/{subject}: the subject's own value; if it has none, the global one
-- with `defaultToGlobal`, else `None`
abbrev pub own_or_global : {A : Type 0} → Option A → A → Bool → Option A
own_or_global own global default_to_global = option_or own (if default_to_global then Some global else None)

-- Schema Registry API reference, GET /config/{subject} and GET /mode/{subject}: the reply that shows the value; if there is none, the fault `absent`
abbrev pub setting_reply_or_fault : {A : Type 0} → Setting A → Option A → ReplyView
setting_reply_or_fault s None = fault s.absent
setting_reply_or_fault s (Some value) = setting_reply s value

-- ---- levels

-- Schema Registry API reference, PUT /config and PUT /config/{subject}: the registry with this level as the subject's own, or as the
-- global one if there is no subject
abbrev pub with_level : Registry → Option (List ℕ) → Level → Registry
with_level g None level = record g { global = level }
with_level g (Some subject) level = record g { own = own_with g.own subject level }

-- Schema Registry API reference, Config: levels
abbrev pub level_setting : Setting Level
level_setting = record {
  text_of = level_text;
  value_of = level_of;
  put = with_level;
  member_in_put = codes "compatibility";
  member_in_get = codes "compatibilityLevel";
  unknown = InvalidLevel;
  absent = NoOwnLevel;
}

-- ---- modes

-- Schema Registry API reference, PUT /mode and PUT /mode/{subject}: the registry with this mode as the subject's own, or as the global
-- one if there is no subject
abbrev pub with_mode : Registry → Option (List ℕ) → Mode → Registry
with_mode g None mode = record g { global_mode = mode }
with_mode g (Some subject) mode = record g { own_modes = own_with g.own_modes subject mode }

-- Schema Registry API reference, Mode: modes
abbrev pub mode_setting : Setting Mode
mode_setting = record {
  text_of = mode_text;
  value_of = mode_of;
  put = with_mode;
  member_in_put = codes "mode";
  member_in_get = codes "mode";
  unknown = InvalidMode;
  absent = NoOwnMode;
}
