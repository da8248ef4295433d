use Rattle.cf_history.proofs.Orders.{log_of_order, order_of_log, log_from_order}
use Rattle.cf_history.proofs.order.valid_orders_give_logs.Goals as goal

pub returns : goal.returns
returns c = record {
  logs = log_of_order;
  orders = λ rows writers log some. (order_of_log rows writers log some, log_from_order rows writers log some);
}
