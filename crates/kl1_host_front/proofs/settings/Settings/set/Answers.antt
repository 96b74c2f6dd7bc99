use Rattle.std.proofs.Common.{refl}
use Rattle.kl1_host_front.specs.Settings as set_as
use Rattle.kl1_host_front.proofs.settings.Settings.set.Goals as goal

pub returns-in_ok-self-in-listen-clause-set : goal.returns-in_ok-self-in-listen-clause-set
returns-in_ok-self-in-listen-clause-set c = set_as.listen c.in-listen.is c.in_ok-self-in-listen.field-0 c.in_ok-self-in-listen.ensures refl

pub returns-in_ok-text_of-in-web-clause-set : goal.returns-in_ok-text_of-in-web-clause-set
returns-in_ok-text_of-in-web-clause-set c = set_as.web c.in-web.is c.in_ok-text_of-in-web.field-0 c.in_ok-text_of-in-web.ensures refl

pub returns-in_ok-origin_of-in-page-clause-set : goal.returns-in_ok-origin_of-in-page-clause-set
returns-in_ok-origin_of-in-page-clause-set c = set_as.page c.in-page.is c.in_ok-origin_of-in-page.field-0 c.in_ok-origin_of-in-page.ensures refl

pub returns-in_ok-number_of-in-workers-clause-set : goal.returns-in_ok-number_of-in-workers-clause-set
returns-in_ok-number_of-in-workers-clause-set c = set_as.workers c.in-workers.is c.in_ok-number_of-in-workers.field-0 c.in_ok-number_of-in-workers.ensures refl

pub returns-in_ok-self-in-sync-clause-set : goal.returns-in_ok-self-in-sync-clause-set
returns-in_ok-self-in-sync-clause-set c = set_as.sync c.in-sync.is c.in_ok-self-in-sync.field-0 c.in_ok-self-in-sync.ensures refl

pub returns-in_ok-self-in-idle-clause-set : goal.returns-in_ok-self-in-idle-clause-set
returns-in_ok-self-in-idle-clause-set c = set_as.idle c.in-idle.is c.in_ok-self-in-idle.field-0 c.in_ok-self-in-idle.ensures refl

pub returns-in_ok-self-in-idle_login-clause-set : goal.returns-in_ok-self-in-idle_login-clause-set
returns-in_ok-self-in-idle_login-clause-set c = set_as.idle_login c.in-idle_login.is c.in_ok-self-in-idle_login.field-0 c.in_ok-self-in-idle_login.ensures refl

pub returns-in_ok-self-in-connections-clause-set : goal.returns-in_ok-self-in-connections-clause-set
returns-in_ok-self-in-connections-clause-set c = set_as.connections c.in-connections.is c.in_ok-self-in-connections.field-0 c.in_ok-self-in-connections.ensures refl

pub returns-in_ok-self-in-connections_each-clause-set : goal.returns-in_ok-self-in-connections_each-clause-set
returns-in_ok-self-in-connections_each-clause-set c = set_as.connections_each c.in-connections_each.is c.in_ok-self-in-connections_each.field-0 c.in_ok-self-in-connections_each.ensures refl

pub returns-in_ok-self-in-waiting_each-clause-set : goal.returns-in_ok-self-in-waiting_each-clause-set
returns-in_ok-self-in-waiting_each-clause-set c = set_as.waiting_each c.in-waiting_each.is c.in_ok-self-in-waiting_each.field-0 c.in_ok-self-in-waiting_each.ensures refl

pub returns-in_ok-self-in-memory_each-clause-set : goal.returns-in_ok-self-in-memory_each-clause-set
returns-in_ok-self-in-memory_each-clause-set c = set_as.memory_each c.in-memory_each.is c.in_ok-self-in-memory_each.field-0 c.in_ok-self-in-memory_each.ensures refl

pub returns-in_ok-self-in-codes_each-clause-set : goal.returns-in_ok-self-in-codes_each-clause-set
returns-in_ok-self-in-codes_each-clause-set c = set_as.codes_each c.in-codes_each.is c.in_ok-self-in-codes_each.field-0 c.in_ok-self-in-codes_each.ensures refl

pub returns-in_ok-self-in-disk_each-clause-set : goal.returns-in_ok-self-in-disk_each-clause-set
returns-in_ok-self-in-disk_each-clause-set c = set_as.disk_each c.in-disk_each.is c.in_ok-self-in-disk_each.field-0 c.in_ok-self-in-disk_each.ensures refl

pub returns-in_ok-self-in-spare_accounts-clause-set : goal.returns-in_ok-self-in-spare_accounts-clause-set
returns-in_ok-self-in-spare_accounts-clause-set c = set_as.spare_accounts c.in-spare_accounts.is c.in_ok-self-in-spare_accounts.field-0 c.in_ok-self-in-spare_accounts.ensures refl
