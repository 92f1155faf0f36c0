mod Rolling
